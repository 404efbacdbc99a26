-- The start of an object is read from bytes exactly where they are a tag, a length in its one form, and as many bytes as it says. Read
-- before: specs/Head.antt. Exports `length_of_sound`, `length_of_complete`, `head_of_sound`, `head_of_complete`, and `head_of_apart` (where
-- another object stands).
use Prim.Native.Nat.{ℕ, suc, ◌+◌, ◌-◌, ◌*◌, ◌/◌, ◌%◌, ◌≤◌, ◌<◌}
use mathlib.Core.Path.{◌≡◌, refl, ap, subst, subst₂, ap₂, ◌∙◌}
use mathlib.Core.List.{List, [], ◌∷◌, ◌++◌}
use mathlib.Core.Bool.{true}
use native.Mathlib.Omega.{arith}
use lib.ListN.{length, drop, get_or}
use lib.Seq.{drop-drop}
use lib.Dec.{ltb, leb, eqb, lit≤}
use borrow.Author.Tests.{lt-ltb, le-ltb, le-leb, eq-eqb, ne_eqb, ltb-true, ltb-false, leb-true, eqb-true, eqb-false, not-true}
use Rattle.base.specs.Bytes.{AllBytes}
use Rattle.base.specs.Choice.{if_else}
use Rattle.base.proofs.Cases.{by_cases, if_else_ind}
use Rattle.objects_writer.specs.Writing.{length_bytes, tag_bytes}
use Rattle.objects_reader.specs.Head.{body_in, length_of, head_of, past_by, Head}
use Rattle.objects_reader.specs.Encoding.{apart}
use Rattle.objects_reader.specs.declared.head.HeadFault.TheVariants.{NoTag, NoLength}
use Rattle.std.specs.Prelude.{Ok, Err}

-- the bytes of an object before its value
abbrev pub head_size : ℕ → ℕ → ℕ
head_size t n = length (tag_bytes t) + length (length_bytes n)

-- the three forms of a length
bytes-short : (n : ℕ) → n < 128 → length_bytes n ≡ n ∷ []
unfolding length_bytes
bytes-short n p = simp (lt-ltb n 128 p)

bytes_mid : (n : ℕ) → 128 ≤ n → n < 256 → length_bytes n ≡ 129 ∷ n ∷ []
unfolding length_bytes
bytes_mid n p q = simp (le-ltb n 128 p, lt-ltb n 256 q)

bytes-long : (n : ℕ) → 256 ≤ n → length_bytes n ≡ 130 ∷ n / 256 ∷ n % 256 ∷ []
unfolding length_bytes
bytes-long n p = simp (le-ltb n 128 (omega arith), le-ltb n 256 p)

-- each form is read
abbrev at_place : ℕ → ℕ → Head
at_place k n = Ok (k, n)

read_short : (n : ℕ) (v : List ℕ) → n < 128 → n ≤ length v → length_of (n ∷ v) ≡ Ok (1, n)
unfolding length_of
read_short n v p q = simp (le-ltb (suc (length v)) 1 (omega arith), lt-ltb n 128 p, le-ltb n 0 (omega arith), le-leb n (suc (length v) - 1) (omega arith))

read_mid : (n : ℕ) (v : List ℕ) → 128 ≤ n → n ≤ length v → length_of (129 ∷ n ∷ v) ≡ Ok (2, n)
unfolding length_of
read_mid n v p q = simp (le-ltb (suc (suc (length v))) 1 (omega arith), le-ltb (suc (suc (length v))) 2 (omega arith), le-ltb n 128 p, le-leb n (suc (suc (length v)) - 2) (omega arith))

read-long : (a b : ℕ) (v : List ℕ) → 256 ≤ a * 256 + b → a * 256 + b ≤ length v → length_of (130 ∷ a ∷ b ∷ v) ≡ Ok (3, a * 256 + b)
unfolding length_of
read-long a b v p q = simp (le-ltb (suc (suc (suc (length v)))) 1 (omega arith), le-ltb (suc (suc (suc (length v)))) 3 (omega arith), le-ltb (a * 256 + b) 256 p, le-leb (a * 256 + b) (suc (suc (suc (length v))) - 3) (omega arith))

pub length_of_complete : (n : ℕ) (v : List ℕ) → n < 65536 → n ≤ length v → length_of (length_bytes n ++ v) ≡ Ok (length (length_bytes n), n)
length_of_complete n v p q =
    by_cases (ltb n 128)
    (λ e. rw (bytes-short n (ltb-true n 128 e)) (read_short n v (ltb-true n 128 e) q))
    (λ e. by_cases (ltb n 256)
    (λ f. rw (bytes_mid n (ltb-false n 128 e) (ltb-true n 256 f)) (read_mid n v (ltb-false n 128 e) q))
    (λ f. let h = ltb-false n 256 f in rw (bytes-long n h)
    (read-long (n / 256) (n % 256) v (omega arith) (omega arith) ∙ ap (at_place 3) (omega arith))))

-- what was read was so written
abbrev place_of : Head → ℕ × ℕ
place_of (Ok (k, n)) = (k, n)
place_of (Err f) = (0, 0)

pub same_place : {k n k' n' : ℕ} → ◌≡◌ {A = Head} (Ok (k, n)) (Ok (k', n')) → (k ≡ k') × (n ≡ n')
same_place e = (ap (λ (h : Head). (place_of h).0) e, ap (λ (h : Head). (place_of h).1) e)

body_inv : (s : List ℕ) (k least n k' n' : ℕ) → body_in s k least n ≡ Ok (k', n') → (k ≡ k') × (n ≡ n') × (least ≤ n) × (n ≤ length s - k)
body_inv s k least n k' n' p =
    by_cases (ltb n least)
    (λ e. let q : Err NoLength ≡ Ok (k', n') = simp e at p in let z : ◌≡◌ {A = ℕ} 0 1 = cc in omega arith)
    (λ e. by_cases (leb n (length s - k))
    (λ f. let i = same_place (simp (e, f) at p) in (i.0, i.1, ltb-false n least e, leb-true n (length s - k) f))
    (λ f. let q : Err NoLength ≡ Ok (k', n') = simp (e, f) at p in let z : ◌≡◌ {A = ℕ} 0 1 = cc in omega arith))

-- s begins with pre, of k bytes, and has n bytes behind it
pub record Begins (pre s : List ℕ) (k n : ℕ) : Type 0 where
  pub bytes : s ≡ pre ++ drop k s
  pub size : k ≡ length pre
  pub inside : k + n ≤ length s
  pub short : n < 65536

abbrev LengthAt : List ℕ → ℕ → ℕ → Type 0
LengthAt s k n = Begins (length_bytes n) s k n

no_body : {A : Type 0} {k n : ℕ} → ◌≡◌ {A = Head} (Err NoLength) (Ok (k, n)) → A
no_body {A} {k} {n} q = let z : ◌≡◌ {A = ℕ} 0 1 = cc in absurd (omega arith)

at_body : (s : List ℕ) (k least n k' n' : ℕ) → (least ≤ n → n ≤ length s - k → LengthAt s k n) → body_in s k least n ≡ Ok (k', n') → LengthAt s k' n'
at_body s k least n k' n' f p = let i = body_inv s k least n k' n' p in subst₂ (LengthAt s) i.0 i.1 (f i.2 i.3)

mid_inv : (a : ℕ) (r : List ℕ) (k n : ℕ) → AllBytes r → a ≡ 129 → if_else (ltb (length (a ∷ r)) 2) (Err NoLength) (body_in (a ∷ r) 2 128 (get_or (a ∷ r) 1 0)) ≡ Ok (k, n) → LengthAt (a ∷ r) k n
unfolding AllBytes
mid_inv a [] k n b e p = no_body p
mid_inv a (c ∷ r) k n b e p =
    at_body (a ∷ c ∷ r) 2 128 c k n
    (λ l i. let t = b 0 in record {
      bytes = rw (bytes_mid c l t) (ap (λ (x : ℕ). x ∷ c ∷ r) e);
      size = rw (bytes_mid c l t);
      inside = omega arith;
      short = omega arith;
    })
    (simp (le-ltb (suc (suc (length r))) 2 (omega arith)) at p)

long_inv : (a : ℕ) (r : List ℕ) (k n : ℕ) → AllBytes r → a ≡ 130 → if_else (ltb (length (a ∷ r)) 3) (Err NoLength) (body_in (a ∷ r) 3 256 (get_or (a ∷ r) 1 0 * 256 + get_or (a ∷ r) 2 0)) ≡ Ok (k, n) → LengthAt (a ∷ r) k n
unfolding AllBytes
long_inv a [] k n b e p = no_body p
long_inv a (c ∷ []) k n b e p = no_body p
long_inv a (c ∷ d ∷ r) k n b e p =
    at_body (a ∷ c ∷ d ∷ r) 3 256 (c * 256 + d) k n
    (λ l i. let t = b 0 in let u = b 1 in
    let hi : (c * 256 + d) / 256 ≡ c = omega arith in
    let lo : (c * 256 + d) % 256 ≡ d = omega arith in
    record {
      bytes = rw (bytes-long (c * 256 + d) l, hi, lo) (ap (λ (x : ℕ). x ∷ c ∷ d ∷ r) e);
      size = rw (bytes-long (c * 256 + d) l);
      inside = omega arith;
      short = omega arith;
    })
    (simp (le-ltb (suc (suc (suc (length r)))) 3 (omega arith)) at p)

bytes_tail : (a : ℕ) (r : List ℕ) → AllBytes (a ∷ r) → AllBytes r
unfolding AllBytes
bytes_tail a r b i = b (suc i)

pub length_of_sound : (s : List ℕ) (k n : ℕ) → AllBytes s → length_of s ≡ Ok (k, n) → LengthAt s k n
unfolding length_of AllBytes
length_of_sound [] k n b p = no_body p
length_of_sound (a ∷ r) k n b p =
    let one = le-ltb (suc (length r)) 1 (omega arith) in
    by_cases (ltb a 128)
    (λ e. at_body (a ∷ r) 1 0 a k n
    (λ l i. let h = ltb-true a 128 e in record {
      bytes = rw (bytes-short a h);
      size = rw (bytes-short a h);
      inside = omega arith;
      short = omega arith;
    })
    (simp (one, e) at p))
    (λ e. by_cases (eqb a 129)
    (λ f. mid_inv a r k n (bytes_tail a r b) (eqb-true a 129 f) (simp (one, e, f) at p))
    (λ f. by_cases (eqb a 130)
    (λ g. long_inv a r k n (bytes_tail a r b) (eqb-true a 130 g) (simp (one, e, f, g) at p))
    (λ g. no_body (simp (one, e, f, g) at p))))

-- the two forms of a tag
tag-short : (t : ℕ) → t < 256 → tag_bytes t ≡ t ∷ []
unfolding tag_bytes
tag-short t p = simp (lt-ltb t 256 p)

tag-long : (t : ℕ) → 256 ≤ t → tag_bytes t ≡ t / 256 ∷ t % 256 ∷ []
unfolding tag_bytes
tag-long t p = simp (le-ltb t 256 p)

pub head_of_complete : (t n : ℕ) (v : List ℕ) → t < 65536 → n < 65536 → n ≤ length v → head_of t (tag_bytes t ++ (length_bytes n ++ v)) ≡ Ok (head_size t n, n)
unfolding head_of
head_of_complete t n v o p q =
    by_cases (ltb t 256)
    (λ e. rw (tag-short t (ltb-true t 256 e))
    (simp (e, le-ltb (suc (length (length_bytes n ++ v))) 1 (omega arith), eq-eqb t t refl) (ap (past_by 1) (length_of_complete n v p q))))
    (λ e. let h = ltb-false t 256 e in rw (tag-long t h)
    (simp (e, le-ltb (suc (suc (length (length_bytes n ++ v)))) 2 (omega arith), eq-eqb (t / 256 * 256 + t % 256) t (omega arith)) (ap (past_by 2) (length_of_complete n v p q))))

past_inv : (j : ℕ) (h : Head) (k n : ℕ) → past_by j h ≡ Ok (k, n) → (m : ℕ) × (h ≡ Ok (m, n)) × (j + m ≡ k)
past_inv j (Ok (m, l)) k n p = let i = same_place p in (m, ap (at_place m) i.1, i.0)
past_inv j (Err NoTag) k n p = let z : ◌≡◌ {A = ℕ} 0 1 = cc in absurd (omega arith)
past_inv j (Err NoLength) k n p = let z : ◌≡◌ {A = ℕ} 0 1 = cc in absurd (omega arith)

no_tag : {A : Type 0} {k n : ℕ} → ◌≡◌ {A = Head} (Err NoTag) (Ok (k, n)) → A
no_tag {A} {k} {n} q = let z : ◌≡◌ {A = ℕ} 0 1 = cc in absurd (omega arith)

abbrev HeadAt : ℕ → List ℕ → ℕ → ℕ → Type 0
HeadAt t s k n = Begins (tag_bytes t ++ length_bytes n) s k n

one_inv : (t a : ℕ) (r : List ℕ) (k n : ℕ) → AllBytes r → t < 256 → a ≡ t → past_by 1 (length_of r) ≡ Ok (k, n) → HeadAt t (a ∷ r) k n
one_inv t a r k n b h e p =
    let i = past_inv 1 (length_of r) k n p in
    let m = i.0 in
    let w = length_of_sound r m n b i.1 in
    subst (λ (x : ℕ). HeadAt t (a ∷ r) x n) i.2 (record {
      bytes = rw (← drop-drop m 1 (a ∷ r), tag-short t h) (ap₂ (λ (x : ℕ) (y : List ℕ). x ∷ y) e w.bytes);
      size = rw (tag-short t h) (let z = w.size in omega arith);
      inside = let z = w.inside in omega arith;
      short = w.short;
    })

two_inv : (t a b : ℕ) (r : List ℕ) (k n : ℕ) → AllBytes r → b < 256 → 256 ≤ t → a * 256 + b ≡ t → past_by 2 (length_of r) ≡ Ok (k, n) → HeadAt t (a ∷ b ∷ r) k n
two_inv t a b r k n bs h g e p =
    let i = past_inv 2 (length_of r) k n p in
    let m = i.0 in
    let w = length_of_sound r m n bs i.1 in
    let hi : a ≡ t / 256 = omega arith in
    let lo : b ≡ t % 256 = omega arith in
    subst (λ (x : ℕ). HeadAt t (a ∷ b ∷ r) x n) i.2 (record {
      bytes = rw (← drop-drop m 2 (a ∷ b ∷ r), tag-long t g) (ap₂ (λ (x : ℕ) (y : List ℕ). x ∷ y) hi (ap₂ (λ (x : ℕ) (y : List ℕ). x ∷ y) lo w.bytes));
      size = rw (tag-long t g) (let z = w.size in omega arith);
      inside = let z = w.inside in omega arith;
      short = w.short;
    })

pub head_of_sound : (t : ℕ) (s : List ℕ) (k n : ℕ) → AllBytes s → head_of t s ≡ Ok (k, n) → HeadAt t s k n
unfolding head_of AllBytes
head_of_sound t s k n b p = by_cases (ltb t 256) (λ e. one s b (ltb-true t 256 e) (simp e at p)) (λ e. two s b (ltb-false t 256 e) (simp e at p))
  where
    one : (s : List ℕ) → AllBytes s → t < 256 → if_else (ltb (length s) 1) (Err NoTag) (if_else (eqb (get_or s 0 0) t) (past_by 1 (length_of (drop 1 s))) (Err NoTag)) ≡ Ok (k, n) → HeadAt t s k n
    one [] b h p = no_tag p
    one (a ∷ r) b h p =
        let z = le-ltb (suc (length r)) 1 (omega arith) in
        by_cases (eqb a t)
        (λ e. one_inv t a r k n (bytes_tail a r b) h (eqb-true a t e) (simp (z, e) at p))
        (λ e. no_tag (simp (z, e) at p))

    two : (s : List ℕ) → AllBytes s → 256 ≤ t → if_else (ltb (length s) 2) (Err NoTag) (if_else (eqb (get_or s 0 0 * 256 + get_or s 1 0) t) (past_by 2 (length_of (drop 2 s))) (Err NoTag)) ≡ Ok (k, n) → HeadAt t s k n
    two [] b h p = no_tag p
    two (a ∷ []) b h p = no_tag p
    two (a ∷ c ∷ r) b h p =
        let z = le-ltb (suc (suc (length r))) 2 (omega arith) in
        by_cases (eqb (a * 256 + c) t)
        (λ e. two_inv t a c r k n (bytes_tail c r (bytes_tail a (c ∷ r) b)) (b 1) h (eqb-true (a * 256 + c) t e) (simp (z, e) at p))
        (λ e. no_tag (simp (z, e) at p))

-- a length field has a first byte
record First (n : ℕ) : Type 0 where
  byte : ℕ
  more : List ℕ
  is : length_bytes n ≡ byte ∷ more
  small : byte < 256

first_of : (n : ℕ) → First n
first_of n =
    by_cases (ltb n 128)
    (λ e. let h = ltb-true n 128 e in record { byte = n; more = []; is = bytes-short n h; small = omega arith })
    (λ e. by_cases (ltb n 256)
    (λ f. record { byte = 129; more = n ∷ []; is = bytes_mid n (ltb-false n 128 e) (ltb-true n 256 f); small = omega arith })
    (λ f. record { byte = 130; more = n / 256 ∷ n % 256 ∷ []; is = bytes-long n (ltb-false n 256 f); small = omega arith }))

-- an object whose tag is apart from t is no object of tag t
pub head_of_apart : (t t' n : ℕ) (v : List ℕ) → apart t t' ≡ true → head_of t (tag_bytes t' ++ (length_bytes n ++ v)) ≡ Err NoTag
unfolding head_of
head_of_apart t t' n v a =
    by_cases (ltb t 256)
    (λ e. by_cases (ltb t' 256)
    (λ f. let y = not-true (eqb t' t) (simp (e, f) at a) in
    rw (tag-short t' (ltb-true t' 256 f)) (simp (e, le-ltb (suc (length (length_bytes n ++ v))) 1 (omega arith), y)))
    (λ f. let y = not-true (eqb (t' / 256) t) (simp (e, f) at a) in
    rw (tag-long t' (ltb-false t' 256 f)) (simp (e, le-ltb (suc (suc (length (length_bytes n ++ v)))) 1 (omega arith), y))))
    (λ e. by_cases (ltb t' 256)
    (λ f. let y = eqb-false t' (t / 256) (not-true (eqb t' (t / 256)) (simp (e, f) at a)) in
    let b = first_of n in
    let z = b.small in
    rw (tag-short t' (ltb-true t' 256 f), b.is)
    (simp (e, le-ltb (suc (suc (length (b.more ++ v)))) 2 (omega arith), ne_eqb (t' * 256 + b.byte) t (λ q. y (omega arith)))))
    (λ f. let y = eqb-false t' t (not-true (eqb t' t) (simp (e, f) at a)) in
    rw (tag-long t' (ltb-false t' 256 f))
    (simp (e, le-ltb (suc (suc (length (length_bytes n ++ v)))) 2 (omega arith), ne_eqb (t' / 256 * 256 + t' % 256) t (λ q. y (omega arith))))))

pub head_of_empty : (t : ℕ) → head_of t [] ≡ Err NoTag
unfolding head_of
head_of_empty t = by_cases (ltb t 256) (λ e. simp e) (λ e. simp e)

-- a head has at most five bytes
tag-most : (t : ℕ) → length (tag_bytes t) ≤ 2
unfolding tag_bytes
tag-most t = if_else_ind (λ (l : List ℕ). length l ≤ 2) (ltb t 256) (λ e. lit≤ tt) (λ e. lit≤ tt)

length_most : (n : ℕ) → length (length_bytes n) ≤ 3
unfolding length_bytes
length_most n =
    let P : List ℕ → Type 0 = λ l. length l ≤ 3 in
    if_else_ind P (ltb n 128) (λ e. lit≤ tt) (λ e. if_else_ind P (ltb n 256) (λ f. lit≤ tt) (λ f. lit≤ tt))

pub head_size_most : (t n : ℕ) → head_size t n ≤ 5
head_size_most t n = omega (arith, tag-most t, length_most n)

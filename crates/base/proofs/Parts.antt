-- Parts of a list, lists that agree in a stretch, and a part replaced by another. Read before: specs/Bytes.antt. Exports `rest` and `part-…`
-- (a part as the code's slices have it), `Agree` with `part_agree` and `part-within`, and the laws of `splice`.
use Prim.Native.Nat.{ℕ, zero, suc, ◌+◌, ◌-◌, ◌≤◌, ◌<◌}
use mathlib.Core.Path.{◌≡◌, refl, sym, ap, ap₂, ◌∙◌}
use mathlib.Core.List.{List, [], ◌∷◌, ◌++◌}
use native.Mathlib.Omega.{arith}
use native.Mathlib.Nat.{le_refl, sub-zero, zero-sub, suc-sub-suc}
use lib.ListN.{take-append-drop, length, get_or, take, drop, length-take, length-drop, length-append, drop_of_length-le, get_or-append}
use lib.Seq.{get_or-take, get_or-drop, get_or-append-add, ext_get_or, drop-drop, take_all, take-nil, take_at, drop_at, length-take-le}
use Rattle.base.specs.Bytes.{part, splice}

-- the part from k on, as the code's `&s[k..]` has it
pub rest : {A : Type 0} (k : ℕ) (l : List A) → take (length l - k) (drop k l) ≡ drop k l
rest k l = take_all (length l - k) (drop k l) (simp length-drop (le_refl _))

-- the part from s to s + n, as the code's `&s[s..e]` has it
pub part_mid : (xs : List ℕ) (s n : ℕ) → part xs s (s + n - s) ≡ part xs s n
part_mid xs s n = let e : s + n - s ≡ n = omega arith in ap (part xs s) e

-- a part that starts at the end or behind it, and one that reaches the end
pub part_past : (xs : List ℕ) (a n : ℕ) → length xs ≤ a → part xs a n ≡ []
part_past xs a n h = rw (drop_of_length-le xs h) (take-nil n)

pub part_all : (xs : List ℕ) (a n : ℕ) → length xs - a ≤ n → part xs a n ≡ drop a xs
part_all xs a n h = take_all n (drop a xs) (simp length-drop h)

pub length_part : (xs : List ℕ) (s n : ℕ) → s + n ≤ length xs → length (part xs s n) ≡ n
length_part xs s n h = simp (length-take, length-drop) (omega arith)

pub get_d_part : (xs : List ℕ) (a n i : ℕ) → i < n → get_or (part xs a n) i 0 ≡ get_or xs (a + i) 0
get_d_part xs a n i h = get_or-take n (drop a xs) i 0 h ∙ get_or-drop a xs i 0

-- the end of a part
pub drop-take : (l : List ℕ) (k n : ℕ) → drop k (take n l) ≡ take (n - k) (drop k l)
drop-take l zero n = simp sub-zero
drop-take l (suc k) zero = simp zero-sub
drop-take [] (suc k) (suc n) = sym (take-nil (suc n - suc k))
drop-take (x ∷ l) (suc k) (suc n) = rw suc-sub-suc (drop-take l k n)

pub drop-part : (xs : List ℕ) (a k n : ℕ) → drop k (part xs a (k + n)) ≡ part xs (a + k) n
drop-part xs a k n =
    let e : k + n - k ≡ n = omega arith in
    drop-take (drop a xs) k (k + n) ∙ ap₂ take e (drop-drop k a xs)

-- ---- lists that agree in a stretch, from a up to e

unfoldable pub Agree : List ℕ → List ℕ → ℕ → ℕ → Type 0
Agree xs ys a e = (p : ℕ) → a ≤ p → p < e → get_or ys p 0 ≡ get_or xs p 0

-- parts of it that are as long
agree_part : (xs ys : List ℕ) (a e p n : ℕ) → length (part ys p n) ≡ length (part xs p n) → Agree xs ys a e → a ≤ p → p + n ≤ e → part ys p n ≡ part xs p n
unfolding Agree
agree_part xs ys a e p n l g h k =
    ext_get_or 0 (part ys p n) (part xs p n) l
    (λ i b. let c = simp (length-take, length-drop) at b in
    let m : i < n = omega arith in
    get_d_part ys p n i m ∙ g (p + i) (omega arith) (omega arith) ∙ sym (get_d_part xs p n i m))

-- in lists that are as long, and in lists that both hold the whole stretch
pub part_agree : (xs ys : List ℕ) (a e p n : ℕ) → length ys ≡ length xs → Agree xs ys a e → a ≤ p → p + n ≤ e → part ys p n ≡ part xs p n
part_agree xs ys a e p n l = agree_part xs ys a e p n (simp (length-take, length-drop, l))

pub part-within : (xs ys : List ℕ) (a e p n : ℕ) → e ≤ length xs → e ≤ length ys → Agree xs ys a e → a ≤ p → p + n ≤ e → part ys p n ≡ part xs p n
part-within xs ys a e p n i j g h k = agree_part xs ys a e p n (length_part ys p n (omega arith) ∙ sym (length_part xs p n (omega arith))) g h k

-- ---- a part replaced by another of its length

-- such a part that was lent and came back
pub splice_lent : (xs : List ℕ) (s n : ℕ) (last body : List ℕ) → last ≡ body → length body ≡ n
    → take s xs ++ (last ++ drop (s + n - s) (drop s xs)) ≡ splice xs s body
unfolding splice
splice_lent xs s n last body e l =
    let q : s + n - s ≡ length body = omega arith in
    ap₂ (λ (b : List ℕ) (k : ℕ). take s xs ++ (b ++ drop k (drop s xs))) e q
    ∙ ap (λ (r : List ℕ). take s xs ++ (body ++ r)) (drop-drop (length body) s xs)

module _ (xs : List ℕ) (s : ℕ) (body : List ℕ) (fits : s + length body ≤ length xs) where
  pub splice-length : length (splice xs s body) ≡ length xs
  unfolding splice
  splice-length = simp (length-append, length-take, length-drop) (omega arith)

  pub splice-before : Agree xs (splice xs s body) 0 s
  unfolding splice Agree
  splice-before p h k =
      let e : length (take s xs) ≡ s = length-take-le s xs (omega arith) in
      get_or-append (take s xs) (body ++ drop (s + length body) xs) 0 p (omega arith) ∙ get_or-take s xs p 0 k

  pub splice-after : (e : ℕ) → Agree xs (splice xs s body) (s + length body) e
  unfolding splice Agree
  splice-after e p h k =
      let l : length (take s xs) ≡ s = length-take-le s xs (omega arith) in
      let i : ℕ = p - (s + length body) in
      let q : p ≡ length (take s xs) + (length body + i) = omega arith in
      let r : s + length body + i ≡ p = omega arith in
      ap (λ (m : ℕ). get_or (take s xs ++ (body ++ drop (s + length body) xs)) m 0) q
      ∙ get_or-append-add (take s xs) (body ++ drop (s + length body) xs) (length body + i) 0
      ∙ get_or-append-add body (drop (s + length body) xs) i 0
      ∙ get_or-drop (s + length body) xs i 0
      ∙ ap (λ (m : ℕ). get_or xs m 0) r

  pub splice-part : part (splice xs s body) s (length body) ≡ body
  unfolding splice
  splice-part =
      ap (take (length body)) (drop_at (take s xs) (body ++ drop (s + length body) xs) s (length-take-le s xs (omega arith)))
      ∙ take_at body (drop (s + length body) xs) (length body) refl

-- a part replaced by itself
pub splice-same : (xs : List ℕ) (s n : ℕ) → s + n ≤ length xs → splice xs s (part xs s n) ≡ xs
unfolding splice
splice-same xs s n h =
    let l = length_part xs s n h in
    ap (λ (k : ℕ). take s xs ++ (part xs s n ++ drop (s + k) xs)) l
    ∙ ap (λ (r : List ℕ). take s xs ++ (part xs s n ++ r)) (sym (drop-drop n s xs))
    ∙ ap (λ (r : List ℕ). take s xs ++ r) (take-append-drop n (drop s xs))
    ∙ take-append-drop s xs

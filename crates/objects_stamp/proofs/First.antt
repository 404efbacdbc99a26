-- The first fault is first: whatever else is wrong stands behind it, or is a later reason there. Read before: specs/Faults.antt. Exports `IsFirst`,
-- `fault_first`, `first_unique`,
-- and `fault_near` with `reach` (a fault stands near the front).
use Prim.Native.Nat.{ℕ, suc, ◌+◌, ◌*◌, ◌≤◌, ◌<◌}
use mathlib.Core.Path.{◌≡◌, refl, sym, ap, ap₂, subst, ◌∙◌}
use mathlib.Core.List.{List}
use mathlib.Core.Bool.{Bool, true, false}
use mathlib.Core.Logic.{◌⊎◌, inl, inr, ⊎_elim}
use native.Mathlib.Omega.{arith}
use lib.ListN.{length, get_or, take, drop, length-drop, length-take}
use lib.Dec.{ltb, eqb, lit≤}
use borrow.Author.Tests.{ltb-true, ltb-false, eqb-true, eqb-false}
use Rattle.base.specs.Choice.{if_else}
use Rattle.base.proofs.Cases.{by_cases, if_else_ind, false-true}
use Rattle.objects_reader.specs.Head.{length_of, head_of, past_by, Head}
use Rattle.objects_reader.specs.Form.{Form, done, plain, maybe, nested, of_size}
use Rattle.base.specs.Bytes.{AllBytes}
use Rattle.objects_reader.specs.Encoding.{leaf_count}
use Rattle.objects_reader.specs.declared.head.HeadFault.TheVariants.{NoTag, NoLength}
use Rattle.std.specs.Prelude.{Ok, Err}
use Rattle.objects_reader.proofs.Heads.{head_of_sound}
use Rattle.objects_reader.proofs.Exact.{bytes_drop, bytes_take}
use Rattle.objects_reader.proofs.Lengths.{HeadIn, head_of_in}
use Rattle.objects_stamp.specs.declared.Reason.{Reason}
use Rattle.objects_stamp.specs.declared.Reason.TheVariants.{WrongTag, WrongLength, WrongContent}
use Rattle.objects_stamp.specs.FirstFault.{Finding, and_then, object_fault, first_fault}
use Rattle.objects_stamp.specs.Loops.{wrong}
use Rattle.objects_stamp.specs.Faults.{reason_number, Faults, OnlyAt, FieldFaults, NestFaults, FormFaults, NoFault, FirstOf}

-- what is found tells the first of the faults, or that there is none
unfoldable pub IsFirst : Finding → Faults → Type 0
IsFirst (Ok _) F = NoFault F
IsFirst (Err (r, p)) F = FirstOf F r p

reason_least : (r : Reason) → 1 ≤ reason_number r
reason_least WrongTag = omega arith
reason_least WrongLength = omega arith
reason_least WrongContent = omega arith

reason_same : (r q : Reason) → reason_number r ≡ reason_number q → r ≡ q
reason_same WrongTag WrongTag e = refl
reason_same WrongTag WrongLength e = absurd (omega arith)
reason_same WrongTag WrongContent e = absurd (omega arith)
reason_same WrongLength WrongTag e = absurd (omega arith)
reason_same WrongLength WrongLength e = refl
reason_same WrongLength WrongContent e = absurd (omega arith)
reason_same WrongContent WrongTag e = absurd (omega arith)
reason_same WrongContent WrongLength e = absurd (omega arith)
reason_same WrongContent WrongContent e = refl

-- a head has a byte or more, and lies within its part of n bytes; where a length is missing, a byte of the tag stands there
abbrev Fine : ℕ → Head → Type 0
Fine n (Ok (start, len)) = (1 ≤ start) × (start + len ≤ n)
Fine n (Err NoTag) = Unit {0}
Fine n (Err NoLength) = 1 ≤ n

abbrev Some : ℕ → Head → Type 0
Some n (Ok (start, len)) = 1 ≤ start
Some n (Err NoTag) = Unit {0}
Some n (Err NoLength) = 1 ≤ n

past_some : (n j : ℕ) (h : Head) → 1 ≤ j → 1 ≤ n → Some n (past_by j h)
past_some n j (Ok (start, len)) p q = omega arith
past_some n j (Err NoTag) p q = tt
past_some n j (Err NoLength) p q = q

head-some : (t : ℕ) (s : List ℕ) → Some (length s) (head_of t s)
unfolding head_of
head-some t s =
    let P = Some (length s) in
    if_else_ind P (ltb t 256)
    (λ e. if_else_ind P (ltb (length s) 1) (λ f. tt)
    (λ f. let h = ltb-false (length s) 1 f in if_else_ind P (eqb (get_or s 0 0) t) (λ g. past_some (length s) 1 (length_of (drop 1 s)) (lit≤ tt) h) (λ g. tt)))
    (λ e. if_else_ind P (ltb (length s) 2) (λ f. tt)
    (λ f. let h = ltb-false (length s) 2 f in if_else_ind P (eqb (get_or s 0 0 * 256 + get_or s 1 0) t) (λ g. past_some (length s) 2 (length_of (drop 2 s)) (lit≤ tt) (omega arith)) (λ g. tt)))

fine_of : (n : ℕ) (h : Head) → Some n h → HeadIn 5 n h → Fine n h
fine_of n (Ok (start, len)) p i = (p, i.1)
fine_of n (Err NoTag) p i = tt
fine_of n (Err NoLength) p i = p

fine : (t : ℕ) (s : List ℕ) → Fine (length s) (head_of t s)
fine t s = fine_of (length s) (head_of t s) (head-some t s) (head_of_in t s)

-- ---- between the start and the end

-- Each place from `at` on, up to e; and only a wrong tag at e itself.
record Inside (at e : ℕ) (F : Faults) : Type 0 where
  low : (r : Reason) (p : ℕ) → F r p → at ≤ p
  most : (r : Reason) (p : ℕ) → F r p → p ≤ e
  less : (r : Reason) (p : ℕ) → 2 ≤ reason_number r → F r p → p < e

tag-inside : (at n : ℕ) → Inside at (at + n) (OnlyAt WrongTag at)
tag-inside at n = record {
  low = λ r p x. let y = x.1 in omega arith;
  most = λ r p x. let y = x.1 in omega arith;
  less = λ r p h x. let y = ap reason_number x.0 in absurd (omega arith);
}

length-inside : (at n : ℕ) → 1 ≤ n → Inside at (at + n) (OnlyAt WrongLength at)
length-inside at n h = record {
  low = λ r p x. let y = x.1 in omega arith;
  most = λ r p x. let y = x.1 in omega arith;
  less = λ r p g x. let y = x.1 in omega arith;
}

field_inside : (n : ℕ) (h : Head) (lo hi at : ℕ) (content : ℕ → ℕ → Bool) (B : ℕ → Faults) (M : Faults) → Fine n h
    → ((j : ℕ) → j ≤ n → Inside (at + j) (at + n) (B j)) → Inside at (at + n) M → Inside at (at + n) (FieldFaults h lo hi at content B M)
field_inside n (Err NoTag) lo hi at content B M i b m = m
field_inside n (Err NoLength) lo hi at content B M i b m = length-inside at n i
field_inside n (Ok (start, len)) lo hi at content B M i b m =
    let u = i.0 in
    let v = i.1 in
    let w = b (start + len) v in
    record {
      low = λ r p x. ⊎_elim (λ y. let z = y.1.1 in omega arith) (λ y. ⊎_elim (λ z. let q = z.1.1 in omega arith) (λ z. let q = w.low r p z in omega arith) y) x;
      most = λ r p x. ⊎_elim (λ y. let z = y.1.1 in omega arith) (λ y. ⊎_elim (λ z. let q = z.1.1 in omega arith) (λ z. w.most r p z) y) x;
      less = λ r p g x. ⊎_elim (λ y. let z = y.1.1 in omega arith) (λ y. ⊎_elim (λ z. let q = z.1.1 in omega arith) (λ z. w.less r p g z) y) x;
    }

nest_inside : (n : ℕ) (h : Head) (at : ℕ) (G : ℕ → ℕ → Faults) (B : ℕ → Faults) → Fine n h
    → ((start len : ℕ) → start + len ≤ n → Inside (at + start) (at + (start + len)) (G start len)) → ((j : ℕ) → j ≤ n → Inside (at + j) (at + n) (B j)) → Inside at (at + n) (NestFaults h at G B)
nest_inside n (Err NoTag) at G B i g b = tag-inside at n
nest_inside n (Err NoLength) at G B i g b = length-inside at n i
nest_inside n (Ok (start, len)) at G B i g b =
    let v = i.1 in
    let a = g start len v in
    let w = b (start + len) v in
    record {
      low = λ r p x. ⊎_elim (λ y. let q = a.low r p y in omega arith) (λ y. let q = w.low r p y in omega arith) x;
      most = λ r p x. ⊎_elim (λ y. let q = a.most r p y in omega arith) (λ y. w.most r p y) x;
      less = λ r p h x. ⊎_elim (λ y. let q = a.less r p h y in omega arith) (λ y. w.less r p h y) x;
    }

ends : {a e e' : ℕ} {F : Faults} → e ≡ e' → Inside a e F → Inside a e' F
ends {a} {e} {e'} {F} h x = subst (λ (n : ℕ). Inside a n F) h x

module _ (ok : ℕ → ℕ → ℕ → Bool) where
  faulty-inside : (f : Form) (k at : ℕ) (s : List ℕ) → Inside at (at + length s) (FormFaults ok f k at s)
  unfolding FormFaults
  faulty-inside done k at s = record {
    low = λ r p x. let y = x.1.1 in omega arith;
    most = λ r p x. let y = x.1.1 in omega arith;
    less = λ r p h x. let y = x.1.1 in let z = x.0 in omega arith;
  }
  faulty-inside (plain t lo hi f) k at s =
      field_inside (length s) (head_of t s) lo hi at (ok k) _ _ (fine t s)
      (λ j h. ends (let l = length-drop j s in omega arith) (faulty-inside f (suc k) (at + j) (drop j s))) (tag-inside at (length s))
  faulty-inside (maybe t lo hi f) k at s =
      field_inside (length s) (head_of t s) lo hi at (ok k) _ _ (fine t s)
      (λ j h. ends (let l = length-drop j s in omega arith) (faulty-inside f (suc k) (at + j) (drop j s))) (faulty-inside f (suc k) at s)
  faulty-inside (nested t g f) k at s =
      nest_inside (length s) (head_of t s) at _ _ (fine t s)
      (λ start len h. ends (let a = length-drop start s in let b = length-take len (drop start s) in omega arith) (faulty-inside g k (at + start) (take len (drop start s))))
      (λ j h. ends (let l = length-drop j s in omega arith) (faulty-inside f (k + leaf_count g) (at + j) (drop j s)))

-- ---- the first

-- the same faults have the same first
first_map : (v : Finding) {F G : Faults} → ((r : Reason) (p : ℕ) → F r p → G r p) → ((r : Reason) (p : ℕ) → G r p → F r p) → IsFirst v F → IsFirst v G
unfolding IsFirst
first_map (Ok _) a b x = λ r p y. x r p (b r p y)
first_map (Err (r, p)) a b x = (a r p x.0, λ r' p' y. x.1 r' p' (b r' p' y))

-- of one reason at a place
same_place : {a r : Reason} {at p : ℕ} → OnlyAt a at r p → (at < p) ⊎ ((at ≡ p) × (reason_number a ≤ reason_number r))
same_place x = inr (sym x.1, (let e = ap reason_number x.0 in omega arith))

only-first : (a : Reason) (at : ℕ) → IsFirst (Err (a, at)) (OnlyAt a at)
unfolding IsFirst
only-first a at = ((refl, refl), λ r p x. same_place x)

of_size_lem : {A : Type 0} (lo hi len : ℕ) (a b : A) (t : Bool) → of_size lo hi len true false ≡ t → of_size lo hi len a b ≡ if_else t a b
of_size_lem lo hi len a b t e =
    by_cases (ltb len lo) (λ x. simp x (let y : false ≡ t = simp x at e in simp (← y)))
    (λ x. by_cases (ltb hi len) (λ z. simp (x, z) (let y : false ≡ t = simp (x, z) at e in simp (← y))) (λ z. simp (x, z) (let y : true ≡ t = simp (x, z) at e in simp (← y))))

field_first : (n : ℕ) (h : Head) (lo hi at : ℕ) (content : ℕ → ℕ → Bool) (behind : ℕ → Finding) (B : ℕ → Faults) (missing : Finding) (M : Faults) → Fine n h
    → ((j : ℕ) → IsFirst (behind j) (B j)) → ((j : ℕ) (r : Reason) (p : ℕ) → B j r p → at + j ≤ p) → IsFirst missing M
    → IsFirst (object_fault h at (λ start len. of_size lo hi len (if_else (content (at + start) len) (behind (start + len)) (Err (WrongContent, at))) (Err (WrongLength, at))) missing)
    (FieldFaults h lo hi at content B M)
unfolding IsFirst
field_first n (Err NoTag) lo hi at content behind B missing M i b l m = m
field_first n (Err NoLength) lo hi at content behind B missing M i b l m = only-first WrongLength at
field_first n (Ok (start, len)) lo hi at content behind B missing M i b l m =
    let u = i.0 in
    by_cases (of_size lo hi len true false)
    (λ e. rw (of_size_lem {A = Finding} lo hi len _ (Err (WrongLength, at)) true e)
    (by_cases (content (at + start) len)
    (λ c. rw c (first_map (behind (start + len)) (λ r p x. inr (inr x))
    (λ r p x. ⊎_elim (λ y. false-true (sym y.0 ∙ e)) (λ y. ⊎_elim (λ z. false-true (sym z.0 ∙ c)) (λ z. z) y) x) (b (start + len))))
    (λ c. rw c (
      inr (inl (c, (refl, refl))),
      λ r p x. ⊎_elim (λ y. false-true (sym y.0 ∙ e))
          (λ y. ⊎_elim (λ z. same_place z.1) (λ z. let q = l (start + len) r p z in inl (omega arith)) y) x,
    ))))
    (λ e. rw (of_size_lem {A = Finding} lo hi len _ (Err (WrongLength, at)) false e) (
      inl (e, (refl, refl)),
      λ r p x. ⊎_elim (λ y. same_place y.1)
          (λ y. ⊎_elim (λ z. inr (sym z.1.1, (let q = ap reason_number z.1.0 in omega arith))) (λ z. let q = l (start + len) r p z in inl (omega arith)) y) x,
    ))

-- Objects inside, which end at e, and behind them: a fault inside at e itself is a wrong tag, and that comes before any other there.
then_first : (v w : Finding) (a e : ℕ) (G B : Faults) → IsFirst v G → IsFirst w B → Inside a e G → ((r : Reason) (p : ℕ) → B r p → e ≤ p)
    → IsFirst (and_then v w) (λ r p. G r p ⊎ B r p)
unfolding IsFirst
then_first (Ok _) w a e G B x y h l =
    first_map w {F = B} {G = λ r p. G r p ⊎ B r p} (λ r p z. inr z) (λ r p z. ⊎_elim (λ g. absurd (x r p g)) (λ g. g) z) y
then_first (Err (r, p)) w a e G B x y h l = (
  inl x.0,
  λ r' p' z. ⊎_elim (λ g. x.1 r' p' g)
      (λ g. let b = l r' p' g in
      let m = h.most r p x.0 in
      by_cases (ltb p p')
      (λ t. inl (ltb-true p p' t))
      (λ t. let n = ltb-false p p' t in
      let k = reason_least r' in
      inr (
        omega arith,
        by_cases (ltb (reason_number r) 2)
            (λ c. let d = ltb-true (reason_number r) 2 c in omega arith)
            (λ c. let d = h.less r p (ltb-false (reason_number r) 2 c) x.0 in absurd (omega arith)),
      ))) z,
)

nest_first : (n : ℕ) (h : Head) (at : ℕ) (within : ℕ → ℕ → Finding) (G : ℕ → ℕ → Faults) (behind : ℕ → Finding) (B : ℕ → Faults) → Fine n h
    → ((start len : ℕ) → IsFirst (within start len) (G start len)) → ((start len : ℕ) → start + len ≤ n → Inside (at + start) (at + (start + len)) (G start len))
    → ((j : ℕ) → IsFirst (behind j) (B j)) → ((j : ℕ) (r : Reason) (p : ℕ) → B j r p → at + j ≤ p)
    → IsFirst (object_fault h at (λ start len. and_then (within start len) (behind (start + len))) (Err (WrongTag, at))) (NestFaults h at G B)
nest_first n (Err NoTag) at within G behind B i a u b l = only-first WrongTag at
nest_first n (Err NoLength) at within G behind B i a u b l = only-first WrongLength at
nest_first n (Ok (start, len)) at within G behind B i a u b l =
    then_first (within start len) (behind (start + len)) (at + start) (at + (start + len)) (G start len) (B (start + len)) (a start len) (b (start + len)) (u start len i.1) (l (start + len))

done_first : (at : ℕ) (s : List ℕ) → IsFirst (if_else (eqb (length s) 0) (Ok tt) (Err (WrongTag, at))) (λ r p. (1 ≤ length s) × OnlyAt WrongTag at r p)
unfolding IsFirst
done_first at s =
    by_cases (eqb (length s) 0)
    (λ e. rw e (λ r p x. let y = eqb-true (length s) 0 e in let z = x.0 in omega arith))
    (λ e. let y = eqb-false (length s) 0 e in rw e ((omega arith, (refl, refl)), λ r p x. same_place x.1))

module _ (ok : ℕ → ℕ → ℕ → Bool) where
  -- The first fault is one, and whatever else is wrong stands behind it; where there is none, nothing is wrong.
  pub fault_first : (f : Form) (k at : ℕ) (s : List ℕ) → IsFirst (first_fault ok f k at s) (FormFaults ok f k at s)
  unfolding first_fault FormFaults
  fault_first done k at s = done_first at s
  fault_first (plain t lo hi f) k at s =
      field_first (length s) (head_of t s) lo hi at (ok k) (λ n. first_fault ok f (suc k) (at + n) (drop n s)) (λ n. FormFaults ok f (suc k) (at + n) (drop n s)) (Err (WrongTag, at)) (OnlyAt WrongTag at) (fine t s)
      (λ j. fault_first f (suc k) (at + j) (drop j s)) (λ j. (faulty-inside ok f (suc k) (at + j) (drop j s)).low) (only-first WrongTag at)
  fault_first (maybe t lo hi f) k at s =
      field_first (length s) (head_of t s) lo hi at (ok k) (λ n. first_fault ok f (suc k) (at + n) (drop n s)) (λ n. FormFaults ok f (suc k) (at + n) (drop n s)) (first_fault ok f (suc k) at s) (FormFaults ok f (suc k) at s) (fine t s)
      (λ j. fault_first f (suc k) (at + j) (drop j s)) (λ j. (faulty-inside ok f (suc k) (at + j) (drop j s)).low) (fault_first f (suc k) at s)
  fault_first (nested t g f) k at s =
      nest_first (length s) (head_of t s) at
      (λ start len. first_fault ok g k (at + start) (take len (drop start s))) (λ start len. FormFaults ok g k (at + start) (take len (drop start s)))
      (λ n. first_fault ok f (k + leaf_count g) (at + n) (drop n s)) (λ n. FormFaults ok f (k + leaf_count g) (at + n) (drop n s)) (fine t s)
      (λ start len. fault_first g k (at + start) (take len (drop start s)))
      (λ start len h. ends (let a = length-drop start s in let b = length-take len (drop start s) in omega arith) (faulty-inside ok g k (at + start) (take len (drop start s))))
      (λ j. fault_first f (k + leaf_count g) (at + j) (drop j s)) (λ j. (faulty-inside ok f (k + leaf_count g) (at + j) (drop j s)).low)

-- ---- a fault is told by a small number

-- a head has at most five bytes, and a value fewer than 65,536
abbrev Short : Head → Type 0
Short (Ok (start, len)) = start + len ≤ 65540
Short (Err NoTag) = Unit {0}
Short (Err NoLength) = Unit {0}

short_of : (t : ℕ) (s : List ℕ) → AllBytes s → (h : Head) → head_of t s ≡ h → HeadIn 5 (length s) h → Short h
short_of t s b (Ok (start, len)) e i = let w = (head_of_sound t s start len b e).short in let u = i.0 in omega arith
short_of t s b (Err NoTag) e i = tt
short_of t s b (Err NoLength) e i = tt

short : (t : ℕ) (s : List ℕ) → AllBytes s → Short (head_of t s)
short t s b = short_of t s b (head_of t s) refl (head_of_in t s)

-- how far from the start of a form something can be wrong
unfoldable pub reach : Form → ℕ
reach done = 0
reach (plain t lo hi f) = 65540 + reach f
reach (maybe t lo hi f) = 65540 + reach f
reach (nested t g f) = 65540 + (reach g + reach f)

abbrev Near : Faults → ℕ → Type 0
Near F e = (r : Reason) (p : ℕ) → F r p → p ≤ e

field_near : (h : Head) (lo hi at n : ℕ) (content : ℕ → ℕ → Bool) (B : ℕ → Faults) (M : Faults) → Short h
    → ((j : ℕ) → j ≤ 65540 → Near (B j) (at + j + n)) → Near M (at + (65540 + n)) → Near (FieldFaults h lo hi at content B M) (at + (65540 + n))
field_near (Err NoTag) lo hi at n content B M i b m = m
field_near (Err NoLength) lo hi at n content B M i b m = λ r p x. let y = x.1 in omega arith
field_near (Ok (start, len)) lo hi at n content B M i b m =
    λ r p x. ⊎_elim (λ y. let z = y.1.1 in omega arith) (λ y. ⊎_elim (λ z. let q = z.1.1 in omega arith) (λ z. let q = b (start + len) i r p z in omega arith) y) x

nest_near : (h : Head) (at n m : ℕ) (G : ℕ → ℕ → Faults) (B : ℕ → Faults) → Short h
    → ((start len : ℕ) → start + len ≤ 65540 → Near (G start len) (at + start + n)) → ((j : ℕ) → j ≤ 65540 → Near (B j) (at + j + m))
    → Near (NestFaults h at G B) (at + (65540 + (n + m)))
nest_near (Err NoTag) at n m G B i g b = λ r p x. let y = x.1 in omega arith
nest_near (Err NoLength) at n m G B i g b = λ r p x. let y = x.1 in omega arith
nest_near (Ok (start, len)) at n m G B i g b =
    λ r p x. ⊎_elim (λ y. let q = g start len i r p y in omega arith) (λ y. let q = b (start + len) i r p y in omega arith) x

module _ (ok : ℕ → ℕ → ℕ → Bool) where
  near : (f : Form) (k at : ℕ) (s : List ℕ) → AllBytes s → Near (FormFaults ok f k at s) (at + reach f)
  unfolding FormFaults reach
  near done k at s b = λ r p x. let y = x.1.1 in omega arith
  near (plain t lo hi f) k at s b =
      field_near (head_of t s) lo hi at (reach f) (ok k) _ _ (short t s b) (λ j h. near f (suc k) (at + j) (drop j s) (bytes_drop j s b)) (λ r p x. let y = x.1 in omega arith)
  near (maybe t lo hi f) k at s b =
      field_near (head_of t s) lo hi at (reach f) (ok k) _ _ (short t s b) (λ j h. near f (suc k) (at + j) (drop j s) (bytes_drop j s b))
      (λ r p x. let y = near f (suc k) at s b r p x in omega arith)
  near (nested t g f) k at s b =
      nest_near (head_of t s) at (reach g) (reach f) _ _ (short t s b)
      (λ start len h. near g k (at + start) (take len (drop start s)) (bytes_take len (drop start s) (bytes_drop start s b)))
      (λ j h. near f (k + leaf_count g) (at + j) (drop j s) (bytes_drop j s b))

  pub fault_near : (f : Form) (k at : ℕ) (s : List ℕ) (r : Reason) (p : ℕ) → AllBytes s → first_fault ok f k at s ≡ Err (r, p) → p ≤ at + reach f
  unfolding IsFirst
  fault_near f k at s r p b e = near f k at s b r p (subst (λ (v : Finding). IsFirst v (FormFaults ok f k at s)) e (fault_first ok f k at s)).0

-- there is exactly one
pub first_unique : (v w : Finding) (F : Faults) → IsFirst v F → IsFirst w F → v ≡ w
unfolding IsFirst
first_unique (Ok _) (Ok _) F x y = refl
first_unique (Ok _) (Err (r, p)) F x y = absurd (x r p y.0)
first_unique (Err (r, p)) (Ok _) F x y = absurd (y r p x.0)
first_unique (Err (r, p)) (Err (r', p')) F x y =
    ⊎_elim (λ a. ⊎_elim (λ b. absurd (omega arith)) (λ b. let e = b.0 in absurd (omega arith)) (y.1 r p x.0))
    (λ a. ⊎_elim (λ b. let e = a.0 in absurd (omega arith))
    (λ b. let m = a.1 in let n = b.1 in ap₂ wrong (reason_same r r' (omega arith)) a.0) (y.1 r p x.0))
    (x.1 r' p' y.0)

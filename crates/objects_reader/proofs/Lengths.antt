-- Where the value of an object lies that stands at the start of a part. Read before: specs/Head.antt. Exports `HeadIn` and the laws that
-- `length_of` and `head_of` keep to it.
use Prim.Native.Nat.{ℕ, ◌+◌, ◌-◌, ◌*◌, ◌≤◌}
use mathlib.Core.Path.{◌≡◌, sym, ap, subst, ◌∙◌}
use mathlib.Core.List.{List}
use native.Mathlib.Omega.{arith}
use lib.ListN.{length, get_or, take, drop, length-drop}
use lib.Dec.{lit≤, ltb, leb, eqb}
use borrow.Author.Tests.{ltb-false, leb-true}
use Rattle.base.proofs.Cases.{if_else_ind}
use Rattle.base.proofs.Parts.{rest}
use Rattle.objects_reader.specs.Head.{body_in, length_of, head_of, past_by, Head}
use Rattle.objects_reader.specs.declared.head.HeadFault.TheVariants.{NoTag, NoLength}
use Rattle.std.specs.Prelude.{Ok, Err}

-- an object lies within its part of n bytes, behind a head of k bytes at most
abbrev pub HeadIn : ℕ → ℕ → Head → Type 0
HeadIn k n (Ok (start, len)) = (start ≤ k) × (start + len ≤ n)
HeadIn k n (Err NoTag) = Unit {0}
HeadIn k n (Err NoLength) = Unit {0}

body-in : (s : List ℕ) (k least n : ℕ) → k ≤ 3 → k ≤ length s → HeadIn 3 (length s) (body_in s k least n)
body-in s k least n q h =
    if_else_ind (HeadIn 3 (length s)) (ltb n least) (λ e. tt)
    (λ e. if_else_ind (HeadIn 3 (length s)) (leb n (length s - k)) (λ f. let g = leb-true n (length s - k) f in omega arith) (λ f. tt))

pub length_of_in : (s : List ℕ) → HeadIn 3 (length s) (length_of s)
unfolding length_of
length_of_in s =
    let P = HeadIn 3 (length s) in
    if_else_ind P (ltb (length s) 1) (λ e. tt)
    (λ e. if_else_ind P (ltb (get_or s 0 0) 128) (λ f. body-in s 1 0 (get_or s 0 0) (lit≤ tt) (ltb-false _ _ e))
    (λ f. if_else_ind P (eqb (get_or s 0 0) 129)
    (λ g. if_else_ind P (ltb (length s) 2) (λ h. tt) (λ h. body-in s 2 128 (get_or s 1 0) (lit≤ tt) (ltb-false _ _ h)))
    (λ g. if_else_ind P (eqb (get_or s 0 0) 130)
    (λ i. if_else_ind P (ltb (length s) 3) (λ h. tt) (λ h. body-in s 3 256 (get_or s 1 0 * 256 + get_or s 2 0) (lit≤ tt) (ltb-false _ _ h)))
    (λ i. tt))))

-- a length field that the code has found behind k bytes
pub length_of_past : (s : List ℕ) (k : ℕ) {h h' : Head} → h ≡ length_of (take (length s - k) (drop k s)) → h ≡ h' → past_by k h' ≡ past_by k (length_of (drop k s))
length_of_past s k p q = ap (past_by k) (sym q ∙ p ∙ ap length_of (rest k s))

pub length_of_small : (s : List ℕ) {h : Head} {start len : ℕ} → h ≡ length_of s → h ≡ Ok (start, len) → start ≤ 3
length_of_small s {h} {start} {len} p q = let i : HeadIn 3 (length s) (Ok (start, len)) = subst (HeadIn 3 (length s)) (sym p ∙ q) (length_of_in s) in i.0

past_in : (k n : ℕ) (h : Head) → k ≤ 2 → k ≤ n → HeadIn 3 (n - k) h → HeadIn 5 n (past_by k h)
past_in k n (Ok (start, len)) q p i = omega arith
past_in k n (Err NoTag) q p i = tt
past_in k n (Err NoLength) q p i = tt

pub head_of_in : (tag : ℕ) (s : List ℕ) → HeadIn 5 (length s) (head_of tag s)
unfolding head_of
head_of_in tag s =
    let P = HeadIn 5 (length s) in
    if_else_ind P (ltb tag 256)
    (λ e. if_else_ind P (ltb (length s) 1) (λ f. tt)
    (λ f. if_else_ind P (eqb (get_or s 0 0) tag) (λ g. past_in 1 (length s) (length_of (drop 1 s)) (lit≤ tt) (ltb-false _ _ f) (rw length-drop at (length_of_in (drop 1 s)))) (λ g. tt)))
    (λ e. if_else_ind P (ltb (length s) 2) (λ f. tt)
    (λ f. if_else_ind P (eqb (get_or s 0 0 * 256 + get_or s 1 0) tag) (λ g. past_in 2 (length s) (length_of (drop 2 s)) (lit≤ tt) (ltb-false _ _ f) (rw length-drop at (length_of_in (drop 2 s)))) (λ g. tt)))

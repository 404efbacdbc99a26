-- Choices by a test, and tests that must all hold. Read before: specs/Choice.antt. Exports `by_cases` and `if_else_ind` (a test either way,
-- with its outcome as an equation), `flag_accepted` and `flag_refused` (a callee's answer that the code has tested), `all_of_facts` and
-- `all_of_accepted` (a list of tests taken apart, and put together).
use mathlib.Core.Path.{◌≡◌, refl, sym, ◌∙◌}
use mathlib.Core.Bool.{Bool, true, false, not, ◌&&◌, false≢true}
use mathlib.Core.List.{List, [], ◌∷◌}
use Prim.Native.Nat.{ℕ, ◌≤◌}
use native.Mathlib.Omega.{arith}
use lib.Dec.{leb}
use borrow.Author.Tests.{not-true, not-false, le-leb, leb-true, leb-false}
use Rattle.base.specs.Choice.{if_else, all_of}

pub false-true : {A : Type 0} → false ≡ true → A
false-true e = absurd (false≢true e)

-- a test either way, with its outcome as an equation
pub by_cases : {P : Type 0} (t : Bool) → (t ≡ true → P) → (t ≡ false → P) → P
by_cases true f g = f refl
by_cases false f g = g refl

pub if_else_ind : {A : Type 0} (P : A → Type 0) (t : Bool) {a b : A} → (t ≡ true → P a) → (t ≡ false → P b) → P (if_else t a b)
if_else_ind P true f g = f refl
if_else_ind P false f g = g refl

-- what a callee says of its answer, where the code has tested `!answer`
pub flag_refused : {r t : Bool} → r ≡ t → not r ≡ true → t ≡ false
flag_refused {r} e h = sym e ∙ not-true r h

pub flag_accepted : {r t : Bool} → r ≡ t → not r ≡ false → t ≡ true
flag_accepted {r} e h = sym e ∙ not-false r h

-- two tests of an order that say the same
pub leb-same : (a b c d : ℕ) → (a ≤ b → c ≤ d) → (c ≤ d → a ≤ b) → leb a b ≡ leb c d
leb-same a b c d f g =
    by_cases (leb a b)
    (λ e. e ∙ sym (le-leb c d (f (leb-true a b e))))
    (λ e. e ∙ sym (by_cases (leb c d) (λ h. let p = g (leb-true c d h) in let q = leb-false a b e in absurd (omega arith)) (λ h. h)))

-- ---- tests that must all hold

pub and_left : (a b : Bool) → (a && b) ≡ true → a ≡ true
and_left true b e = refl
and_left false b e = e

pub and_right : (a b : Bool) → (a && b) ≡ true → b ≡ true
and_right true b e = e
and_right false b e = false-true e

-- each holds
abbrev pub AllTrue : List Bool → Type 0
AllTrue [] = Unit {0}
AllTrue (t ∷ ts) = (t ≡ true) × AllTrue ts

pub all_of_facts : (ts : List Bool) → all_of ts ≡ true → AllTrue ts
unfolding all_of
all_of_facts [] e = tt
all_of_facts (t ∷ ts) e = (and_left t (all_of ts) e, all_of_facts ts (and_right t (all_of ts) e))

pub all_of_accepted : (ts : List Bool) → AllTrue ts → all_of ts ≡ true
unfolding all_of
all_of_accepted [] h = refl
all_of_accepted (t ∷ ts) h = rw h.0 (all_of_accepted ts h.1)

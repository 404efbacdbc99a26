-- The same bytes: what settles that they are, and what `==` answers. Read before: specs/Bytes.antt. Exports `same_equal`, `same_refl`,
-- `same_pointwise`.
use Prim.Native.Nat.{ℕ}
use mathlib.Core.Path.{◌≡◌, refl, ap, ap₂}
use mathlib.Core.Bool.{Bool, true, ◌&&◌}
use mathlib.Core.List.{List, [], ◌∷◌}
use lib.Dec.{eqb}
use lib.Pointwise.{pointwise}
use borrow.Author.Tests.{eq-eqb, eqb-true}
use Rattle.base.specs.Bytes.{same_bytes}
use Rattle.base.proofs.Cases.{false-true, and_left, and_right}

pub same_equal : (x y : List ℕ) → same_bytes x y ≡ true → x ≡ y
unfolding same_bytes
same_equal [] [] e = refl
same_equal [] (b ∷ y) e = false-true e
same_equal (a ∷ x) [] e = false-true e
same_equal (a ∷ x) (b ∷ y) e = ap₂ ◌∷◌ (eqb-true a b (and_left _ _ e)) (same_equal x y (and_right (eqb a b) _ e))

pub same_refl : (x : List ℕ) → same_bytes x x ≡ true
unfolding same_bytes
same_refl [] = refl
same_refl (a ∷ x) = simp (eq-eqb a a refl) (same_refl x)

-- what `==` of slices answers
pub same_pointwise : (x y : List ℕ) → pointwise eqb x y ≡ same_bytes x y
unfolding same_bytes
same_pointwise [] [] = refl
same_pointwise [] (b ∷ y) = refl
same_pointwise (a ∷ x) [] = refl
same_pointwise (a ∷ x) (b ∷ y) = ap (λ (t : Bool). eqb a b && t) (same_pointwise x y)

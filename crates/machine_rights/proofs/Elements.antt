-- Rights byte by byte: the bytes of two that are joined, and two that are compared as the code's `==` compares them. Read before:
-- specs/Chain.antt. Exports the laws of `joined_bytes`, and `same_is`.
use Prim.Native.Nat.{ℕ, zero, suc}
use mathlib.Core.Path.{◌≡◌, refl, sym, ap}
use mathlib.Core.Bool.{◌&&◌, and-true}
use mathlib.Core.List.{List, [], ◌∷◌}
use native.Mathlib.Omega.{arith}
use lib.ListN.{length, get_or}
use lib.Dec.{eqb}
use lib.Bits.{bit_and, and_zero_l, and_zero_r}
use lib.Pointwise.{pointwise}
use Rattle.base.specs.Choice.{all_of}
use Rattle.base.specs.Bytes.{same_bytes}
use Rattle.machine_rights.specs.declared.Rights.{Rights}
use Rattle.machine_rights.specs.Chain.{joined_bytes, same}

pub get_d_joined : (x y : List ℕ) (j : ℕ) → get_or (joined_bytes x y) j 0 ≡ bit_and (get_or x j 0) (get_or y j 0)
unfolding joined_bytes
get_d_joined [] y j = sym (and_zero_l (get_or y j 0))
get_d_joined (a ∷ x) [] j = sym (and_zero_r (get_or (a ∷ x) j 0))
get_d_joined (a ∷ x) (b ∷ y) zero = refl
get_d_joined (a ∷ x) (b ∷ y) (suc j) = get_d_joined x y j

pub length-joined : (x y : List ℕ) → length x ≡ length y → length (joined_bytes x y) ≡ length x
unfolding joined_bytes
length-joined [] y e = refl
length-joined (a ∷ x) [] e = sym e
length-joined (a ∷ x) (b ∷ y) e = ap suc (length-joined x y (omega arith))

bytes-same : (x y : List ℕ) → same_bytes x y ≡ pointwise eqb x y
unfolding same_bytes
bytes-same [] [] = refl
bytes-same [] (b ∷ y) = refl
bytes-same (a ∷ x) [] = refl
bytes-same (a ∷ x) (b ∷ y) = ap (λ t. eqb a b && t) (bytes-same x y)

-- the code's `==` on rights, field by field
pub same_is : (a b : Rights)
    → same a b ≡ (eqb a.flags b.flags && (eqb a.travel b.travel && (eqb a.visa b.visa && pointwise eqb a.biometrics b.biometrics)))
unfolding same all_of
same_is a b = simp (bytes-same, and-true)

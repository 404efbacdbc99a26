-- Laws of the comparison with the AIDs' beginning. Read specs/Master.antt before. Exports `agrees_prefix`.
use Prim.Native.Nat.{ℕ}
use mathlib.Core.Path.{◌≡◌, refl, sym, ◌∙◌}
use mathlib.Core.Bool.{and-true, and-false, and_assoc}
use mathlib.Core.List.{List, [], ◌∷◌}
use lib.Dec.{eqb}
use borrow.Author.Tests.{eq-eqb, ne_eqb, eqb-true, eqb-false}
use Rattle.std.specs.List.{starts_with}
use Rattle.base.proofs.Cases.{by_cases}
use Rattle.store_files.specs.Master.{aid_prefix, agrees_to}

swap : (a b : ℕ) → eqb a b ≡ eqb b a
swap a b =
    by_cases (eqb b a)
    (λ t. eq-eqb a b (sym (eqb-true b a t)) ∙ sym t)
    (λ f. ne_eqb a b (λ e. eqb-false b a f (sym e)) ∙ sym f)

-- as a prefix, or byte by byte with 0 past the end: the last of the five is not 0
pub agrees_prefix : (d : List ℕ) → starts_with eqb d aid_prefix ≡ agrees_to d 5
unfolding agrees_to aid_prefix
agrees_prefix [] = refl
agrees_prefix (a ∷ []) = simp and-false
agrees_prefix (a ∷ b ∷ []) = simp and-false
agrees_prefix (a ∷ b ∷ c ∷ []) = simp and-false
agrees_prefix (a ∷ b ∷ c ∷ e ∷ []) = simp and-false
agrees_prefix (a ∷ b ∷ c ∷ e ∷ f ∷ d) =
    rw (swap a 0xA0, swap b 0x00, swap c 0x00, swap e 0x02, swap f 0x47) (simp (and_assoc, and-true))

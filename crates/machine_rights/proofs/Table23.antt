-- Table 23 as rows says what the formula of clause B9 says. Read before: specs/Rights.antt. Exports `biometrics_bit_formula` and
-- `may_biometrics_formula`, for a reader, and `biometrics_bit-inside`, for the functions here.
use Prim.Native.Nat.{ℕ, zero, suc, ◌+◌, ◌-◌, ◌*◌, ◌/◌, ◌%◌, ◌^◌, ◌≤◌, ◌<◌}
use mathlib.Core.Path.{◌≡◌, refl, ◌∙◌}
use mathlib.Core.Bool.{Bool}
use mathlib.Core.List.{[], ◌∷◌}
use native.Mathlib.Omega.{arith}
use lib.ListN.{get_or}
use lib.Dec.{leb, eqb}
use Rattle.base.specs.Choice.{if_else, all_of}
use Rattle.base.proofs.Cases.{if_else_ind}
use Rattle.machine_rights.specs.declared.Rights.{Rights}
use Rattle.machine_rights.specs.declared.RightBit.{RightBit}
use Rattle.machine_rights.specs.Rights.{bit, biometrics_byte, file_bits, biometrics_bit, may_biometrics}

-- file i of a byte, counted from 0, has bit 8 - 2i and bit 7 - 2i
row_formula : (i : ℕ) → i < 4 → get_or file_bits i [] ≡ (8 - 2 * i) ∷ (7 - 2 * i) ∷ []
unfolding file_bits
row_formula zero h = refl
row_formula (suc zero) h = refl
row_formula (suc (suc zero)) h = refl
row_formula (suc (suc (suc zero))) h = refl
row_formula (suc (suc (suc (suc i)))) h = absurd (omega arith)

module _ (n i : ℕ) (activated : Bool) (e : i ≡ (n - 1) % 4) where
  -- while Biometrics n is Deactivated bit 8 - 2i of byte 2 + (n - 1) div 4 counts, while it is Activated bit 7 - 2i
  pub biometrics_bit_formula : biometrics_bit n activated ≡ record { byte = 2 + (n - 1) / 4; bit = if_else activated (7 - 2 * i) (8 - 2 * i) }
  unfolding biometrics_bit
  biometrics_bit_formula = rw (← e, row_formula i (omega arith))

  -- so Biometrics n may be used in its state when it is one of the 64 and that bit is set. It is said of the bytes, so that a byte or a bit
  -- that is counted wrongly breaks it: x is that byte, counted from 1 among the 17, and b that bit, which is worth 2 to the power b - 1.
  pub may_biometrics_formula : (r : Rights) (x b : ℕ)
      → x ≡ get_or r.biometrics (2 + (n - 1) / 4 - 1) 0
      → b ≡ if_else activated (7 - 2 * i) (8 - 2 * i)
      → may_biometrics r n activated ≡ all_of (leb 1 n ∷ leb n 64 ∷ eqb (x / 2 ^ (b - 1) % 2) 1 ∷ [])
  unfolding may_biometrics biometrics_byte bit
  may_biometrics_formula r x b f g = simp (biometrics_bit_formula, f, g)

-- byte and bit are there: one of the 17, one of the 8
pub biometrics_bit-inside : (n : ℕ) (activated : Bool) (b : RightBit) → b ≡ biometrics_bit n activated → n ≤ 64
    → ((1 ≤ b.byte) × (b.byte ≤ 17)) × ((1 ≤ b.bit) × (b.bit ≤ 8))
biometrics_bit-inside n activated b e h =
    rw (e ∙ biometrics_bit_formula n ((n - 1) % 4) activated refl) (
      (omega arith, omega arith),
      if_else_ind (λ (k : ℕ). (1 ≤ k) × (k ≤ 8)) activated (λ _. (omega arith, omega arith)) (λ _. (omega arith, omega arith)),
    )

-- The answers on a right by the tests that the code makes: one law for each. Read before: specs/Rights.antt. Exports `flag-…`, `in-…`
-- (records and certificates) and `file-…` (biometrics files), for the functions of this crate.
use Prim.Native.Nat.{ℕ, ◌-◌, ◌≤◌}
use mathlib.Core.Path.{◌≡◌}
use mathlib.Core.Bool.{Bool, and-true}
use lib.ListN.{get_or}
use borrow.Author.Tests.{le-leb}
use Rattle.base.specs.Choice.{all_of}
use Rattle.machine_rights.specs.declared.Rights.{Rights}
use Rattle.machine_rights.specs.declared.RightBit.{RightBit}
use Rattle.machine_rights.specs.Rights.{bit, flagged, biometrics_byte, record_bit, may_records, biometrics_bit, may_biometrics}

module _ (r : Rights) (a : ℕ) where
  pub flag_is : 1 ≤ a → a ≤ 3 → bit r.flags a ≡ flagged r a
  unfolding flagged all_of
  flag_is h k = simp (le-leb _ _ h, le-leb _ _ k, and-true)

module _ (r : Rights) (a : ℕ) (certificates append : Bool) where
  pub in-travel : (b : ℕ) → a ≡ 1 → b ≡ record_bit certificates append → bit r.travel b ≡ may_records r a certificates append
  unfolding may_records
  in-travel b h e = simp (h, e)

  pub in-visa : (b : ℕ) → a ≡ 2 → b ≡ record_bit certificates append → bit r.visa b ≡ may_records r a certificates append
  unfolding may_records
  in-visa b h e = simp (h, e)

module _ (r : Rights) (n : ℕ) (activated : Bool) where
  pub file-is : (b : RightBit) (x : ℕ) → 1 ≤ n → n ≤ 64 → b ≡ biometrics_bit n activated → x ≡ get_or r.biometrics (b.byte - 1) 0
      → bit x b.bit ≡ may_biometrics r n activated
  unfolding may_biometrics biometrics_byte all_of
  file-is b x h k e f = simp (le-leb _ _ h, le-leb _ _ k, and-true, f, e)

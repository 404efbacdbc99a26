-- Rights of the card to try, computed: three theorems that a reader can check by eye. Read before: specs/Chain.antt, specs/Rights.antt.
use Prim.Native.Nat.{ℕ}
use mathlib.Core.Path.{◌≡◌, refl}
use mathlib.Core.Bool.{true, false}
use mathlib.Core.List.{List, [], ◌∷◌, ◌++◌}
use lib.ListN.{replicate, set}
use Rattle.base.specs.Choice.{all_of}
use Rattle.machine_rights.specs.Rights.{bit, flagged, biometrics_byte, file_bits, biometrics_bit, may_biometrics}
use Rattle.machine_rights.specs.Chain.{certificate, joined_bytes, joined, cleared_bytes, cleared, no_rights, effective}

-- three certificates with every bit set: the bits without a meaning are cleared
everything : List ℕ
everything = replicate 60 255

full : effective everything ≡ record { flags = 7; travel = 15; visa = 15; biometrics = 3 ∷ replicate 16 255 }
unfolding everything certificate joined_bytes joined cleared_bytes cleared effective bit
full = refl

-- the second certificate lacks the travel flag, so the chain lacks it
lacking : flagged (effective (set everything 20 6)) 1 ≡ false
unfolding everything certificate joined_bytes joined cleared_bytes cleared effective flagged all_of bit
lacking = refl

-- not 60 bytes, and 60 zero bytes
short : effective (replicate 59 255) ≡ effective (replicate 60 0)
unfolding certificate joined_bytes joined cleared_bytes cleared no_rights effective bit
short = refl

-- all flags, and of the rights only b8 of biometrics byte 3: Biometrics 5 while Deactivated, and no more
one : List ℕ
one = (7 ∷ 0 ∷ 0 ∷ 0 ∷ 0 ∷ 0x80 ∷ []) ++ replicate 14 0

five : may_biometrics (effective (one ++ (one ++ one))) 5 false ≡ true
unfolding one certificate joined_bytes joined cleared_bytes cleared effective may_biometrics biometrics_byte biometrics_bit file_bits all_of bit
five = refl

five_activated : may_biometrics (effective (one ++ (one ++ one))) 5 true ≡ false
unfolding one certificate joined_bytes joined cleared_bytes cleared effective may_biometrics biometrics_byte biometrics_bit file_bits all_of bit
five_activated = refl

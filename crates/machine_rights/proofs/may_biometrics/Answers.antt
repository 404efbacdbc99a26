-- `may_biometrics` meets its contract: the number is in range, so byte and bit are there, and the bit is the one that counts.
use mathlib.Core.Path.{◌∙◌}
use native.Mathlib.Omega.{arith}
use Rattle.machine_rights.proofs.Table23.{biometrics_bit-inside}
use Rattle.machine_rights.proofs.Answers.{file-is}
use Rattle.machine_rights.proofs.may_biometrics.Goals as goal

pub biometrics_byte-requires : goal.biometrics_byte-requires
biometrics_byte-requires c = (biometrics_bit-inside _ _ _ c.biometrics_bit-b.ensures (omega arith)).0

pub bit-requires : goal.bit-requires
bit-requires c = (biometrics_bit-inside _ _ _ c.biometrics_bit-b.ensures (omega arith)).1

pub returns : goal.returns
returns c =
    c.bit.ensures
    ∙ file-is _ _ _ _ _ (omega arith) (omega arith) c.biometrics_bit-b.ensures c.biometrics_byte.ensures

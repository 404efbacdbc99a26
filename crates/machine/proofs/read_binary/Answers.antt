-- `machine::read_binary` meets its contract.
use mathlib.Core.Path.{sym}
use Rattle.base.proofs.Parts.{length_part}
use Rattle.machine.specs.Effects.{done}
use Rattle.machine.proofs.Saying.{said}
use Rattle.machine.proofs.read_binary.Goals as goal

pub returns : goal.returns
unfolding done
returns c = let p = c.requires in let l = length_part _ _ _ p.2 in said 0x9000 _ _ _ _ (rw l p.1) p.0 c.set_file.ensures (sym l, c.put_bytes.ensures.1) c.status_behind.ensures

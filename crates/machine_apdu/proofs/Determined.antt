-- Every public function of this crate has one outcome: its contract leaves nothing open. Read before: specs/Determined.antt of base.
use mathlib.Core.Path.{sym, ◌∙◌}
use Rattle.base.specs.Determined.{Determined}
use Rattle.machine_apdu.proofs.shape.Kinds as shape-kinds
use Rattle.machine_apdu.proofs.shape.Reads as shape-reads

pub shape_determined : Determined shape-kinds.ps shape-kinds.r shape-reads.Post
shape_determined κs a e f p q i = ((p ∙ sym q) i, e.1)

-- Every public function of this crate has one outcome: its contract leaves nothing open. Read before: specs/Determined.antt of base.
use mathlib.Core.Path.{sym, ◌∙◌}
use Rattle.base.specs.Determined.{Determined}
use Rattle.machine_dispatch.proofs.by_class.Kinds as by-class-kinds
use Rattle.machine_dispatch.proofs.by_class.Reads as by-class-reads

pub by_class_determined : Determined by-class-kinds.ps by-class-kinds.r by-class-reads.Post
by_class_determined κs a e f p q i = ((p ∙ sym q) i, e.1)

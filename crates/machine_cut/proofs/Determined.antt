-- Every public function of this crate has one outcome: its contract leaves nothing open. Read before: specs/Determined.antt of base.
use mathlib.Core.Path.{sym, ◌∙◌}
use Rattle.base.specs.Determined.{Determined}
use Rattle.machine_cut.proofs.cut.Kinds as cut-kinds
use Rattle.machine_cut.proofs.cut.Reads as cut-reads

pub cut_determined : Determined cut-kinds.ps cut-kinds.r cut-reads.Post
cut_determined κs a e f p q i = (((p ∙ sym q) i).answer, (((p ∙ sym q) i).image, (tt, (tt, (tt, (tt, tt))))))

-- Every public function of this crate has one outcome: its contract leaves nothing open. Read before: specs/Determined.antt of base.
use mathlib.Core.Path.{sym, ◌∙◌}
use Rattle.base.specs.Determined.{Determined}
use Rattle.machine_select.proofs.fmm.fmm.Kinds as fmm-kinds
use Rattle.machine_select.proofs.fmm.fmm.Reads as fmm-reads
use Rattle.machine_select.proofs.select.select.Kinds as select-kinds
use Rattle.machine_select.proofs.select.select.Reads as select-reads
use Rattle.machine_select.proofs.select.one_of_three.Kinds as one-of-three-kinds
use Rattle.machine_select.proofs.select.one_of_three.Reads as one-of-three-reads

pub fmm_determined : Determined fmm-kinds.ps fmm-kinds.r fmm-reads.Post
fmm_determined κs a e f p q i = ((p ∙ sym q) i, e.1)

pub select_determined : Determined select-kinds.ps select-kinds.r select-reads.Post
select_determined κs a e f p q i = ((p ∙ sym q) i, e.1)

pub one_of_three_determined : Determined one-of-three-kinds.ps one-of-three-kinds.r one-of-three-reads.Post
one_of_three_determined κs a e f p q i = ((p ∙ sym q) i, e.1)

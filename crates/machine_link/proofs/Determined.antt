-- Every public function of this crate has one outcome: its contract leaves nothing open. Read before: specs/Determined.antt of base.
use mathlib.Core.Path.{sym, ◌∙◌}
use Rattle.base.specs.Determined.{Determined}
use Rattle.machine_link.proofs.turn.Kinds as turn-kinds
use Rattle.machine_link.proofs.turn.Reads as turn-reads
use Rattle.machine_link.proofs.fits.Kinds as fits-kinds
use Rattle.machine_link.proofs.fits.Reads as fits-reads
use Rattle.machine_link.proofs.parameters.fit.Kinds as fit-kinds
use Rattle.machine_link.proofs.parameters.fit.Reads as fit-reads

pub turn_determined : Determined turn-kinds.ps turn-kinds.r turn-reads.Post
turn_determined κs a e f p q i = ((p ∙ sym q) i, e.1)

pub fits_determined : Determined fits-kinds.ps fits-kinds.r fits-reads.Post
fits_determined κs a e f p q i = ((p ∙ sym q) i, e.1)

pub fit_determined : Determined fit-kinds.ps fit-kinds.r fit-reads.Post
fit_determined κs a e f p q i = ((p ∙ sym q) i, e.1)

-- Every public function of this crate has one outcome: its contract leaves nothing open. Read before: specs/Determined.antt of base.
use mathlib.Core.Path.{refl, sym, ◌∙◌}
use Rattle.base.specs.Determined.{Determined, DeterminedPart}
use Rattle.machine_window.proofs.occurs.Kinds as occurs-kinds
use Rattle.machine_window.proofs.occurs.Reads as occurs-reads
use Rattle.machine_window.proofs.window.Kinds as window-kinds
use Rattle.machine_window.proofs.window.Reads as window-reads
use Rattle.machine_window.proofs.matches.Kinds as matches-kinds
use Rattle.machine_window.proofs.matches.Reads as matches-reads

pub occurs_determined : Determined occurs-kinds.ps occurs-kinds.r occurs-reads.Post
occurs_determined κs a e f p q i = ((p ∙ sym q) i, e.1)

pub window_determined : DeterminedPart window-kinds.ps window-reads.Post
window_determined κs a e f p q = (p ∙ sym q, refl)

pub matches_determined : Determined matches-kinds.ps matches-kinds.r matches-reads.Post
matches_determined κs a e f p q i = ((p ∙ sym q) i, e.1)

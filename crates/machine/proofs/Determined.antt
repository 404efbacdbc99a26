-- Every public function of this crate has one outcome: its contract leaves nothing open. Read before: specs/Determined.antt of base.
use mathlib.Core.Path.{ap₂, sym, ◌∙◌}
use Rattle.base.specs.Determined.{Determined}
use Rattle.machine.proofs.open.Kinds as open-kinds
use Rattle.machine.proofs.open.Reads as open-reads
use Rattle.machine.proofs.judged.Kinds as judged-kinds
use Rattle.machine.proofs.judged.Reads as judged-reads
use Rattle.machine.proofs.command.Kinds as command-kinds
use Rattle.machine.proofs.command.Reads as command-reads

pub open_determined : Determined open-kinds.ps open-kinds.r open-reads.Post
open_determined κs a e f p q i = ((p ∙ sym q) i, e.1)

pub judged_determined : Determined judged-kinds.ps judged-kinds.r judged-reads.Post
judged_determined κs a e f p q i = ((p ∙ sym q) i, e.1)

pub command_determined : Determined command-kinds.ps command-kinds.r command-reads.Post
command_determined κs a e f p q =
    ap₂ (λ o l. (o.answer, (o.image, (tt, (l, (tt, (o.buffer, tt))))))) (p.0 ∙ sym q.0) (p.1 ∙ sym q.1)

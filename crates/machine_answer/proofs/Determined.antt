-- Every public function of this crate has one outcome: its contract leaves nothing open. Read before: specs/Determined.antt of base.
use mathlib.Core.Path.{ap, sym, ◌∙◌}
use Rattle.base.specs.Determined.{Determined}
use Rattle.machine_answer.proofs.status_behind.Kinds as status-behind-kinds
use Rattle.machine_answer.proofs.status_behind.Reads as status-behind-reads
use Rattle.machine_answer.proofs.status_only.Kinds as status-only-kinds
use Rattle.machine_answer.proofs.status_only.Reads as status-only-reads
use Rattle.machine_answer.proofs.placed.Kinds as placed-kinds
use Rattle.machine_answer.proofs.placed.Reads as placed-reads
use Rattle.machine_answer.proofs.entered.Kinds as entered-kinds
use Rattle.machine_answer.proofs.entered.Reads as entered-reads
use Rattle.machine_answer.proofs.update.Kinds as update-kinds
use Rattle.machine_answer.proofs.update.Reads as update-reads
use Rattle.machine_answer.proofs.activate.Kinds as activate-kinds
use Rattle.machine_answer.proofs.activate.Reads as activate-reads
use Rattle.machine_answer.proofs.append.Kinds as append-kinds
use Rattle.machine_answer.proofs.append.Reads as append-reads

pub status-behind_determined : Determined status-behind-kinds.ps status-behind-kinds.r status-behind-reads.Post
status-behind_determined κs a e f p q i = ((p.0 ∙ sym q.0) i, (tt, (tt, (tt, ((p.1 ∙ sym q.1) i, tt)))))

pub status-only_determined : Determined status-only-kinds.ps status-only-kinds.r status-only-reads.Post
status-only_determined κs a e f p q i = ((p.0 ∙ sym q.0) i, (tt, (tt, ((p.1 ∙ sym q.1) i, tt))))

pub placed_determined : Determined placed-kinds.ps placed-kinds.r placed-reads.Post
placed_determined κs a e f p q i = ((p ∙ sym q) i, e.1)

pub entered_determined : Determined entered-kinds.ps entered-kinds.r entered-reads.Post
entered_determined κs a e f p q i = ((p ∙ sym q) i, e.1)

pub update_determined : Determined update-kinds.ps update-kinds.r update-reads.Post
update_determined κs a e f p q = ap (λ o. (o.answer, (o.image, (tt, (tt, (tt, (tt, (o.buffer, tt)))))))) (p ∙ sym q)

pub activate_determined : Determined activate-kinds.ps activate-kinds.r activate-reads.Post
activate_determined κs a e f p q = ap (λ o. (o.answer, (o.image, (tt, (tt, (o.buffer, tt)))))) (p ∙ sym q)

pub append_determined : Determined append-kinds.ps append-kinds.r append-reads.Post
append_determined κs a e f p q = ap (λ o. (o.answer, (o.image, (tt, (tt, (tt, (o.buffer, tt))))))) (p ∙ sym q)

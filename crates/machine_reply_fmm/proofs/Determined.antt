-- Every public function of this crate has one outcome: its contract leaves nothing open. Read before: specs/Determined.antt of base.
use mathlib.Core.Path.{sym, ◌∙◌}
use Rattle.base.specs.Determined.{Determined}
use Rattle.machine_reply_fmm.proofs.total.Kinds as total-kinds
use Rattle.machine_reply_fmm.proofs.total.Reads as total-reads
use Rattle.machine_reply_fmm.proofs.remaining.Kinds as remaining-kinds
use Rattle.machine_reply_fmm.proofs.remaining.Reads as remaining-reads
use Rattle.machine_reply_fmm.proofs.existing.Kinds as existing-kinds
use Rattle.machine_reply_fmm.proofs.existing.Reads as existing-reads
use Rattle.machine_reply_fmm.proofs.put_report.Kinds as put-report-kinds
use Rattle.machine_reply_fmm.proofs.put_report.Reads as put-report-reads

pub total_determined : Determined total-kinds.ps total-kinds.r total-reads.Post
total_determined κs a e f p q i = ((p ∙ sym q) i, e.1)

pub remaining_determined : Determined remaining-kinds.ps remaining-kinds.r remaining-reads.Post
remaining_determined κs a e f p q i = ((p ∙ sym q) i, e.1)

pub existing_determined : Determined existing-kinds.ps existing-kinds.r existing-reads.Post
existing_determined κs a e f p q i = ((p ∙ sym q) i, e.1)

pub put_report_determined : Determined put-report-kinds.ps put-report-kinds.r put-report-reads.Post
put_report_determined κs a e f p q i = ((p.0 ∙ sym q.0) i, ((p.1 ∙ sym q.1) i, (tt, (tt, (tt, (tt, tt))))))

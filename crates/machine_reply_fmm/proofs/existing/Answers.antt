-- By the two kinds of files.
use mathlib.Core.Path.{sym, ap, ◌∙◌}
use Rattle.store_records.specs.Body.{count}
use Rattle.machine_reply_fmm.specs.Report.{existing}
use Rattle.machine_reply_fmm.proofs.existing.Goals as goal

pub returns-in-RecordFile : goal.returns-in-RecordFile
unfolding existing
returns-in-RecordFile c = c.count.ensures.0 ∙ ap count c.body.ensures ∙ sym (ap (existing _) c.in-RecordFile.is)

pub returns-in-TransparentFile : goal.returns-in-TransparentFile
unfolding existing
returns-in-TransparentFile c = sym (ap (existing _) c.in-TransparentFile.is)

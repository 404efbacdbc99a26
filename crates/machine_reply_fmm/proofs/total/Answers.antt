-- By the two kinds of files.
use mathlib.Core.Path.{sym, ap, ◌∙◌}
use Rattle.machine_reply_fmm.specs.Report.{capacity, total}
use Rattle.machine_reply_fmm.proofs.total.Goals as goal

pub returns-in-RecordFile : goal.returns-in-RecordFile
unfolding total
returns-in-RecordFile c = c.capacity.ensures ∙ ap capacity c.body.ensures ∙ sym (ap (total _) c.in-RecordFile.is)

pub returns-in-TransparentFile : goal.returns-in-TransparentFile
unfolding total
returns-in-TransparentFile c = c.transparent_total.ensures ∙ sym (ap (total c.args.image.now) c.in-TransparentFile.is)

-- By the two kinds of files.
use mathlib.Core.Path.{sym, ap, ◌∙◌}
use Rattle.machine_reply_fmm.specs.Report.{further, remaining}
use Rattle.machine_reply_fmm.proofs.remaining.Goals as goal

pub returns-in-RecordFile : goal.returns-in-RecordFile
unfolding remaining
returns-in-RecordFile c = c.further.ensures ∙ ap (further _ _) c.body.ensures ∙ sym (ap (remaining _) c.in-RecordFile.is)

pub returns-in-TransparentFile : goal.returns-in-TransparentFile
unfolding remaining
returns-in-TransparentFile c = sym (ap (remaining _) c.in-TransparentFile.is)

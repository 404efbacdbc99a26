-- The number's object, or nothing.
use mathlib.Core.Path.{sym}
use Rattle.objects_writer.proofs.Writings.{put_same, put-none}
use Rattle.machine_reply_fmm.proofs.Reporting.{asked_accepted, asked-refused}
use Rattle.machine_reply_fmm.proofs.put_asked.Goals as goal

pub returns-then-bit-eq1 : goal.returns-then-bit-eq1
returns-then-bit-eq1 c = put_same _ _ (sym (asked_accepted _ _ _ c.if-bit-eq1.true)) c.put_number.ensures

pub returns : goal.returns
returns c = put_same _ _ (sym (asked-refused _ _ _ c.if-bit-eq1.false)) (put-none _ _)

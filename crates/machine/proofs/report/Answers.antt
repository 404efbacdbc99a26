-- `machine::report` meets its contract.
use native.Mathlib.Omega.{arith}
use Rattle.objects_writer.proofs.Writings.{put_same}
use Rattle.machine_reply_fmm.specs.Report.{report_data}
use Rattle.machine_reply_fmm.proofs.Reporting.{report_bound}
use Rattle.machine.specs.Effects.{done}
use Rattle.machine.proofs.Saying.{said, stored, same_report}
use Rattle.machine.proofs.report.Goals as goal

pub overflow_cast-n : goal.overflow_cast-n
overflow_cast-n c = let a = c.args in let m = report_bound a.p2 c.total-t.result c.remaining-r.result c.existing-e.result in let e = stored a.response.now (report_data a.p2 c.total-t.result c.remaining-r.result c.existing-e.result) m c.requires c.put_report-n.ensures in omega (arith, e.0, m)

pub returns : goal.returns
unfolding done
returns c = let a = c.args in let e = same_report a.p2 c.total-t.ensures c.remaining-r.ensures c.existing-e.ensures in said 0x9000 _ _ _ a.response.now (report_bound _ _ _ _) c.requires c.set_file.ensures (stored a.response.now _ (report_bound _ _ _ _) c.requires (put_same _ _ e c.put_report-n.ensures)) c.status_behind.ensures

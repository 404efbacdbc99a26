-- The head and the numbers are stored where there is room for all of them.
use mathlib.Core.Path.{ap₂}
use Prim.Native.Nat.{◌+◌}
use Rattle.machine_reply_fmm.proofs.Reporting.{report_none, report_refused, report_accepted}
use Rattle.machine_reply_fmm.proofs.put_report.Goals as goal

pub returns-then-p2-eq0 : goal.returns-then-p2-eq0
returns-then-p2-eq0 c = report_none _ _ _ _ _ c.if-p2-eq0.true

pub returns-then-out-len : goal.returns-then-out-len
returns-then-out-len c = report_refused _ _ _ _ c.if-p2-eq0.false _ (ap₂ ◌+◌ (ap₂ ◌+◌ c.asked_length.ensures.0 c.asked_length-2.ensures.0) c.asked_length-3.ensures.0) _ c.if-out-len.true

pub returns : goal.returns
returns c =
    let l = ap₂ ◌+◌ (ap₂ ◌+◌ c.asked_length.ensures.0 c.asked_length-2.ensures.0) c.asked_length-3.ensures.0 in
    report_accepted _ _ _ _ c.if-p2-eq0.false _ l _ c.if-out-len.false c.put_head-first.ensures c.put_asked-second.ensures c.put_asked-third.ensures
    c.put_asked.ensures

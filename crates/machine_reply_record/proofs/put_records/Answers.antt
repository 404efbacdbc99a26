use mathlib.Core.Path.{ap, ◌∙◌}
use native.Mathlib.Omega.{arith}
use Rattle.store_records.specs.Body.{place}
use Rattle.store_records.proofs.Walks.{walked_start, walked_next}
use Rattle.machine_reply_record.proofs.Joining.{data_start, data_turn, data_all, data_full, data_end}
use Rattle.machine_reply_record.proofs.put_records.Goals as goal

pub loop-n-init : goal.loop-n-init
loop-n-init c = (walked_start _ _ _ (c.place-at.ensures ∙ ap (place _) (omega arith)), data_start _ _ _ _ (omega arith))

pub returns-then-len-ge-CUT : goal.returns-then-len-ge-CUT
returns-then-len-ge-CUT c =
    let w = c.loop-n.invariant.1 in
    data_end _ _ _ _ _ c.if-out-lt-CUT.false (data_full _ _ _ _ (omega arith) (omega arith)) w

pub loop-n-preserved : goal.loop-n-preserved
loop-n-preserved c =
    let i = c.loop-n.invariant in
    (walked_next _ _ _ _ i.0 c.behind-at.ensures, data_turn _ _ _ _ _ _ (omega arith) (omega arith) i.0 c.record_at.ensures i.1 c.put_cut-len.ensures)

pub returns : goal.returns
returns c = data_end _ _ _ _ _ c.if-out-lt-CUT.false (data_all _ _ _ _ (omega arith)) c.loop-n.invariant.1

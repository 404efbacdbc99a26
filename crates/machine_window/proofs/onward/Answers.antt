use native.Mathlib.Omega.{arith}
use lib.ListN.{get_or}
use Rattle.machine_window.specs.Loops.{Least}
use Rattle.machine_window.proofs.Moving.{try_sought, try_none, try_found, try_same, try_moved}
use Rattle.machine_window.proofs.onward.Goals as goal
use Rattle.machine_window.proofs.onward.Goals.{After-min-c}

-- the move that the table has
least : (c : After-min-c)
    → Least c.args.text.now c.min-c.result
    (get_or c.moves-table.result c.min-c.result 0)
least c = c.moves-table.ensures c.min-c.result (omega arith) (omega arith)

pub returns-then-r-m : goal.returns-then-r-m
returns-then-r-m c = try_found _ _ _ _ _ c.loop-p.invariant c.run-r.ensures c.if-r-m.true (omega arith)

pub loop-p-preserved-then-q-eq0 : goal.loop-p-preserved-then-q-eq0
loop-p-preserved-then-q-eq0 c =
    try_sought _ _ _ _ _ (omega arith) c.seek-p.ensures
    (try_same _ _ _ _ _ c.loop-p.invariant c.run-r.ensures _ _ (omega arith) (omega arith) (least (goal.at.loop-p-preserved-then-q-eq0 c).After-min-c))

pub loop-p-preserved : goal.loop-p-preserved
loop-p-preserved c =
    try_moved _ _ _ _ _ c.loop-p.invariant c.run-r.ensures _ _ (omega arith) (omega arith) (least (goal.at.loop-p-preserved c).After-min-c) c.if-q-eq0.false

pub returns : goal.returns
returns c = try_none _ _ _ _ _ c.loop-p.invariant (omega arith) (omega arith)

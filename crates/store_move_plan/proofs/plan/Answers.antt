use mathlib.Core.Path.{refl}
use native.Mathlib.Omega.{arith}
use Rattle.base.proofs.Cases.{flag_refused, flag_accepted}
use Rattle.store_move_plan.specs.Rooms.{rows, sections}
use Rattle.store_move_plan.proofs.Blank.{lay_start, lay_next, at_next, plan_torn, plan-long, plan-refused_row, plan-total}
use Rattle.store_move_plan.proofs.plan.Goals as goal

pub returns-then-list-ne0 : goal.returns-then-list-ne0
returns-then-list-ne0 c = plan_torn _ c.if-list-ne0.true

pub loop-i-init : goal.loop-i-init
unfolding rows sections
loop-i-init c = (refl, omega arith, lay_start _)

pub returns-then-at-len : goal.returns-then-at-len
unfolding rows
returns-then-at-len c = plan-long _ c.loop-i.i c.loop-i-test.true c.loop-i.at _ c.loop-i.invariant.0 c.read32-len.ensures.0 (omega arith)

pub row_ok-requires : goal.row_ok-requires
unfolding rows
row_ok-requires c = c.loop-i-test.true

pub returns-then-not-row_ok : goal.returns-then-not-row_ok
unfolding rows
returns-then-not-row_ok c = plan-refused_row _ c.loop-i.i _ c.loop-i.invariant.2 c.loop-i-test.true (flag_refused c.row_ok.ensures c.if-not-row_ok.true-raw)

pub loop-i-preserved : goal.loop-i-preserved
unfolding rows
loop-i-preserved c = (at_next _ c.loop-i.i c.loop-i-test.true c.loop-i.at _ c.loop-i.invariant.0 c.read32-len.ensures.0, omega arith, lay_next _ c.loop-i.i _ c.loop-i.invariant.2 c.loop-i-test.true _ c.read16-last.ensures.0 (flag_accepted c.row_ok.ensures c.if-not-row_ok.false-raw))

pub returns : goal.returns
unfolding rows
returns c = plan-total _ c.loop-i.i _ c.loop-i.invariant.2 c.loop-i.at c.loop-i.invariant.0 (omega arith) c.loop-i.invariant.1 c.if-list-ne0.false

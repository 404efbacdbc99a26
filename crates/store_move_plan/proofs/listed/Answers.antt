use native.Mathlib.Omega.{arith}
use Rattle.store_move_plan.specs.Rooms.{rows}
use Rattle.store_move_plan.proofs.Blank.{look_start, look_none, look_hit, look_next}
use Rattle.store_move_plan.proofs.listed.Goals as goal

pub loop-i-init : goal.loop-i-init
loop-i-init c = look_start _ _

pub returns-then-read16-kind : goal.returns-then-read16-kind
unfolding rows
returns-then-read16-kind c = look_hit _ _ _ c.loop-i.invariant c.loop-i-test.true _ c.read16.ensures.0 c.if-read16-kind.true

pub loop-i-preserved : goal.loop-i-preserved
unfolding rows
loop-i-preserved c = look_next _ _ _ c.loop-i.invariant c.loop-i-test.true _ c.read16.ensures.0 c.if-read16-kind.false

pub returns : goal.returns
unfolding rows
returns c = look_none _ _ _ c.loop-i.invariant (omega arith)

use native.Mathlib.Omega.{arith}
use Rattle.base.proofs.Cases.{flag_refused, flag_accepted}
use Rattle.store_move.proofs.Walk.{stand_start, here, stand_next}
use Rattle.store_move.proofs.Listing.{list_start, list_missing, list_next, list_end}
use Rattle.store_move.proofs.lists.Goals as goal

pub loop-at-init : goal.loop-at-init
loop-at-init c = (list_start _ _, stand_start _ c.requires, omega arith)

pub overflow_add-at : goal.overflow_add-at
overflow_add-at c = omega (arith, (here _ _ c.loop-at.invariant.1 c.loop-at-test.true).whole)

pub returns-then-not-listed_near : goal.returns-then-not-listed_near
returns-then-not-listed_near c = list_missing _ _ _ c.loop-at.invariant.0 c.loop-at-test.true _ c.read16.ensures.0 (flag_refused c.listed_near.ensures c.if-not-listed_near.true-raw)

pub overflow_add-at-in-loop-at : goal.overflow_add-at-in-loop-at
overflow_add-at-in-loop-at c = omega (arith, (here _ _ c.loop-at.invariant.1 c.loop-at-test.true).whole)

pub overflow_add-at-in-loop-at-2 : goal.overflow_add-at-in-loop-at-2
overflow_add-at-in-loop-at-2 c = omega (arith, (here _ _ c.loop-at.invariant.1 c.loop-at-test.true).whole)

pub loop-at-smaller : goal.loop-at-smaller
loop-at-smaller c = omega (arith, (here _ _ c.loop-at.invariant.1 c.loop-at-test.true).whole)

pub loop-at-preserved : goal.loop-at-preserved
loop-at-preserved c = (list_next _ _ _ c.loop-at.invariant.0 c.loop-at-test.true _ c.read16.ensures.0 _ c.read32.ensures.0 (flag_accepted c.listed_near.ensures c.if-not-listed_near.false-raw), stand_next _ _ c.loop-at.invariant.1 c.loop-at-test.true _ c.read32.ensures.0, omega arith)

pub returns : goal.returns
returns c = list_end _ _ _ c.loop-at.invariant.0 c.loop-at-test.false

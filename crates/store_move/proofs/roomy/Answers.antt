use native.Mathlib.Omega.{arith}
use Rattle.base.proofs.Cases.{flag_refused, flag_accepted}
use Rattle.store_move_plan.specs.Rooms.{rows}
use Rattle.store_move.proofs.Walk.{stand_start}
use Rattle.store_move.proofs.Fitting.{roomy-start, roomy-refused, roomy_next, roomy_end}
use Rattle.store_move.proofs.roomy.Goals as goal

pub loop-i-init : goal.loop-i-init
loop-i-init c = (stand_start _ c.requires, roomy-start _ _)

pub fits-requires : goal.fits-requires
fits-requires c = c.loop-i.invariant.0

pub returns-then-not-fits : goal.returns-then-not-fits
unfolding rows
returns-then-not-fits c = roomy-refused _ _ c.loop-i.i _ _ c.read16-kind.ensures.0 c.read32.ensures.0 c.loop-i-test.true (flag_refused c.fits.ensures c.if-not-fits.true-raw)

pub behind-from-requires : goal.behind-from-requires
behind-from-requires c = c.loop-i.invariant.0

pub loop-i-preserved : goal.loop-i-preserved
unfolding rows
loop-i-preserved c = (c.behind-from.ensures, roomy_next _ _ c.loop-i.i _ _ c.read16-kind.ensures.0 c.read32.ensures.0 c.loop-i.invariant.1 (flag_accepted c.fits.ensures c.if-not-fits.false-raw))

pub returns : goal.returns
unfolding rows
returns c = roomy_end _ _ c.loop-i.i (omega arith) c.loop-i.invariant.1

use mathlib.Core.Path.{sym}
use native.Mathlib.Omega.{arith}
use Rattle.store_records.proofs.Bodies.{place-zero, place-turn}
use Rattle.store_records.proofs.body.place_of.Goals as goal

pub loop-init : goal.loop-init
loop-init c = (sym (place-zero _), omega arith)

pub loop-preserved : goal.loop-preserved
loop-preserved c = (place-turn _ _ _ _ c.loop.invariant.0 c.read16.ensures.0, omega arith)

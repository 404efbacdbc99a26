use mathlib.Core.Path.{refl}
use Rattle.machine_window.proofs.Clearing.{clear_more}
use Rattle.machine_window.proofs.seek.Goals as goal

pub loop-p-preserved : goal.loop-p-preserved
loop-p-preserved c = clear_more refl c.loop-p.invariant (c.likely.ensures.never c.if-likely.false)

use Rattle.base.proofs.Runs.{sets-turn}
use Rattle.base.proofs.copy_in.Goals as goal

pub loop-i-preserved : goal.loop-i-preserved
loop-i-preserved c = sets-turn _ _ _ _ _ c.loop-i.invariant c.loop-i-test.true

use mathlib.Core.Path.{◌∙◌}
use Rattle.objects_writer.proofs.Writings.{digits-turn}
use Rattle.objects_writer.proofs.put_digits.Goals as goal

pub loop-i-preserved : goal.loop-i-preserved
loop-i-preserved c = digits-turn _ _ _ _ c.loop-i-test.true ∙ c.loop-i.invariant

use mathlib.Core.Path.{refl}
use Rattle.objects_reader.specs.Places.{place_pairs}
use Rattle.objects_stamp.proofs.Writing.{pairs_turn}
use Rattle.objects_stamp.proofs.write.Goals as goal

pub loop-i-init : goal.loop-i-init
unfolding place_pairs
loop-i-init c = refl

pub loop-i-preserved : goal.loop-i-preserved
loop-i-preserved c = pairs_turn _ _ _ _ c.loop-i.invariant

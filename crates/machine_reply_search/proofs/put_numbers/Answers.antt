use mathlib.Core.Path.{refl, ◌∙◌}
use Rattle.machine_reply_search.specs.Found.{listed}
use Rattle.machine_reply_search.proofs.Listing.{listed-turn}
use Rattle.machine_reply_search.proofs.put_numbers.Goals as goal

pub loop-k-init : goal.loop-k-init
unfolding listed
loop-k-init c = (refl, refl)

pub loop-k-preserved : goal.loop-k-preserved
loop-k-preserved c =
    (c.put.auto.dst ∙ c.loop-k.invariant.0, listed-turn _ _ _ _ _ _ c.loop-k-test.true c.requires c.loop-k.invariant.1 c.put.ensures.1)

-- `store_image::find` meets its contract. Invariant (`Seeking`): what is found from `at` on is what is found in the whole image, and `at` is
-- within it. A section of another kind is passed (`seek_next`); the first of the kind is the answer (`seek_hit`); where no whole section is
-- left there is none (`seek_none`). Measure: the bytes behind `at`.
use Prim.Native.Nat.{◌-◌, ◌≤◌}
use lib.ListN.{length}
use Rattle.store_image.proofs.Sections.{Seeking}
use Rattle.store_image.proofs.find.Given as goal

abbrev pub invariant-loop-at : goal.invariant-loop-at
invariant-loop-at l = Seeking l.image l.kind l.at × (l.at ≤ length l.image)

abbrev pub decreases-loop-at : goal.decreases-loop-at
decreases-loop-at l = length l.image - l.at

-- `store_image::well_formed` meets its contract. Invariant (`Walking`): the sections from `at` on, behind one of kind `last`, are right just
-- where the whole image is, the application of `last` is present, and `at` is within the image. A right section is whole, so the walk stays
-- within the image (`walk_next`); one that is not right ends it (`walk_refused`). Measure: the bytes behind `at`.
use Prim.Native.Nat.{◌-◌, ◌≤◌}
use lib.ListN.{length}
use Rattle.store_image.proofs.Sections.{Walking}
use Rattle.store_image.proofs.well_formed.Given as goal

abbrev pub invariant-loop-at : goal.invariant-loop-at
invariant-loop-at l = Walking l.image l.at l.last × (l.at ≤ length l.image)

abbrev pub decreases-loop-at : goal.decreases-loop-at
decreases-loop-at l = length l.image - l.at

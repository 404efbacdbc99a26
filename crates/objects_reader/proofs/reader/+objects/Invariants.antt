-- `objects` meets its contract. The call goes into an object, so the remaining depth falls. In the loop, the invariant: the whole reading is
-- what the rows from `row` on make of the bytes from `at` on. Each kind of step keeps it (`turn_plain`, `turn_on`, `turn_absent`). Measure of
-- the loop: the rows left, of which each turn takes one or more.
use Prim.Native.Nat.{◌≤◌, ◌-◌}
use mathlib.Core.Path.{◌≡◌}
use lib.ListN.{length}
use Rattle.objects_reader.specs.Form.{form_of, read_form}
use Rattle.objects_reader.proofs.Steps.{left}
use Rattle.objects_reader.proofs.reader.+objects.Given as goal

abbrev pub decreases-objects : goal.decreases-objects
decreases-objects l = l.depth

abbrev pub invariant-loop-fault : goal.invariant-loop-fault
invariant-loop-fault l =
    (l.row ≤ length l.form) × (l.at ≤ length l.s) × (read_form (form_of l.form) l.depth l.base l.s l.fn.r ≡ left l.form l.s l.depth l.base l.row l.at l.r)

abbrev pub decreases-loop-fault : goal.decreases-loop-fault
decreases-loop-fault l = length l.form - l.row

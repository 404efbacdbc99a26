-- `store_move_plan::plan` meets its contract. Invariant: `at` is the place of row i's section in the empty image and at most 262,144, and
-- (`Laying`) the sections from there on, behind one of kind `last`, are right just where the whole image is, if that is not too long. A right
-- row that stays within 262,144 bytes keeps this (`at_next`, `lay_next`).
use Prim.Native.Nat.{◌≤◌}
use mathlib.Core.Path.{◌≡◌}
use Rattle.store_move_plan.proofs.Blank.{at as place, Laying}
use Rattle.store_move_plan.proofs.plan.Given as goal

abbrev pub invariant-loop-i : goal.invariant-loop-i
invariant-loop-i l = (l.at ≡ place l.list l.i) × (l.at ≤ 262144) × Laying l.list l.i l.last

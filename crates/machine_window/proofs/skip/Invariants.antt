-- `skip` meets its contract. Invariant: the string stands at none of the places before p. A turn passes the sixteen that `clear` has seen.
-- Measure: the places from p on.
use Prim.Native.Nat.{◌+◌, ◌-◌, ◌≤◌}
use lib.ListN.{length}
use Rattle.machine_window.specs.Loops.{Clear}
use Rattle.machine_window.proofs.skip.Given as goal

abbrev pub invariant-loop-p : goal.invariant-loop-p
invariant-loop-p l = (l.from ≤ l.p) × (l.p ≤ length l.w) × Clear l.w l.text l.from l.p

abbrev pub decreases-loop-p : goal.decreases-loop-p
decreases-loop-p l = l.last + 1 - l.p

-- `leap` meets its contract. Invariant: the first i bytes of the string stand from p on. A turn adds the sixteen that `alike` has seen.
-- Measure: the bytes of the string that are left.
use Prim.Native.Nat.{◌-◌, ◌≤◌}
use lib.ListN.{length}
use Rattle.machine_window.specs.Loops.{Stand}
use Rattle.machine_window.proofs.leap.Given as goal

abbrev pub invariant-loop-i : goal.invariant-loop-i
invariant-loop-i l = (l.q ≤ l.i) × (l.i ≤ length l.text) × Stand l.w l.text l.p l.i

abbrev pub decreases-loop-i : goal.decreases-loop-i
decreases-loop-i l = length l.text - l.i

-- `moves` meets its contract. Invariant (`Built`): q bytes of the string stand in it from p on, no smaller move is left for the p + q bytes
-- up to there and the next, and the table is right up to p + q. Each branch keeps it: one byte more stands (`built_more`), none does
-- (`built_none`), or p moves on by the least number that the table has for q (`built_fall`). Measure: (end - p) + (end - (p + q)), since p or
-- p + q grows and neither falls.
use Prim.Native.Nat.{◌+◌, ◌-◌, min}
use mathlib.Core.Path.{◌≡◌}
use lib.ListN.{length}
use Rattle.machine_window.proofs.Moving.{Built}
use Rattle.machine_window.proofs.moves.Given as goal

abbrev pub invariant-loop-p : goal.invariant-loop-p
invariant-loop-p l = (l.end ≡ min (length l.text) 929) × (length l.table ≡ 930) × Built l.text l.table l.end l.p l.q

abbrev pub decreases-loop-p : goal.decreases-loop-p
decreases-loop-p l = l.end - l.p + (l.end - (l.p + l.q))

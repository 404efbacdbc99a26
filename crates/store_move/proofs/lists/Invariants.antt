-- `store_move::lists` meets its contract. Invariant: a section of the old image stands at `at` or nothing more (`Standing`), and (`Listing`) the
-- kinds from there on have rows just where all kinds have; i is at most `at`, so it does not wrap. A section whose kind has a row is passed
-- (`list_next`). Measure: the bytes behind `at`.
use Prim.Native.Nat.{◌-◌, ◌≤◌}
use lib.ListN.{length}
use Rattle.store_move.specs.Loops.{Standing}
use Rattle.store_move.proofs.Listing.{Listing}
use Rattle.store_move.proofs.lists.Given as goal

abbrev pub invariant-loop-at : goal.invariant-loop-at
invariant-loop-at l = Listing l.old l.list l.at × Standing l.old l.at × (l.i ≤ l.at)

abbrev pub decreases-loop-at : goal.decreases-loop-at
decreases-loop-at l = length l.old - l.at

-- `store_move::roomy` meets its contract. Invariant: the contents of the first i rows fit in their rooms, and a section of the old image stands
-- at `from` or nothing more (`Standing`). A content that fits adds a row (`roomy_next`), one that does not makes the answer false
-- (`roomy-refused`).
use mathlib.Core.Path.{◌≡◌}
use mathlib.Core.Bool.{true}
use Rattle.store_move.specs.Moving.{roomy_to}
use Rattle.store_move.specs.Loops.{Standing}
use Rattle.store_move.proofs.roomy.Given as goal

abbrev pub invariant-loop-i : goal.invariant-loop-i
invariant-loop-i l = Standing l.old l.from × (roomy_to l.old l.list l.i ≡ true)

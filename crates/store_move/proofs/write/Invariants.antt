-- `store_move::write` meets its contract. Invariant: the target begins with the sections of the first i rows, which end at `at`, and behind them
-- is as it was; a section of the old image stands at `from` or nothing more (`Standing`). A turn writes the section of row i right behind them
-- (`Turn`).
use mathlib.Core.Path.{◌≡◌}
use mathlib.Core.List.{◌++◌}
use lib.ListN.{length, drop}
use Rattle.store_move_plan.specs.Rooms.{sections}
use Rattle.store_move.specs.Moving.{content}
use Rattle.store_move.specs.Loops.{Standing}
use Rattle.store_move.proofs.write.Given as goal

abbrev pub invariant-loop-i : goal.invariant-loop-i
invariant-loop-i l = (l.target ≡ sections (content l.old) l.list l.i ++ drop (length (sections (content l.old) l.list l.i)) l.initial.target) × (l.at ≡ length (sections (content l.old) l.list l.i)) × Standing l.old l.from

-- `store_move_plan::listed` meets its contract. Invariant (`Looking`): what is found from the section of row i on is what is found in the whole
-- image that the list lays out. A row of another kind is passed (`look_next`).
use Rattle.store_move_plan.proofs.Blank.{Looking}
use Rattle.store_move_plan.proofs.listed.Given as goal

abbrev pub invariant-loop-i : goal.invariant-loop-i
invariant-loop-i l = Looking l.list l.kind l.i

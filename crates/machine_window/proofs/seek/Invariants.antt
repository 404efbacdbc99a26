-- `seek` meets its contract. Invariant: the string stands at none of the places before p. A place that is not likely is one more of them
-- (`clear_more`).
use Rattle.machine_window.specs.Loops.{Clear}
use Rattle.machine_window.proofs.seek.Given as goal

abbrev pub invariant-loop-p : goal.invariant-loop-p
invariant-loop-p l = Clear l.w l.text l.from l.p

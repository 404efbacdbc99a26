-- `onward` meets its contract. Invariant (`Trying`): the string stands at no place before p, and its first q bytes stand there. A try in
-- vain moves p on by the table's number, which passes no place where the string can stand (`try_moved`). Measure: the places from p on.
use Prim.Native.Nat.{◌+◌, ◌-◌}
use Rattle.machine_window.proofs.Moving.{Trying}
use Rattle.machine_window.proofs.onward.Given as goal

abbrev pub invariant-loop-p : goal.invariant-loop-p
invariant-loop-p l = Trying l.w l.text l.from l.p l.q

abbrev pub decreases-loop-p : goal.decreases-loop-p
decreases-loop-p l = l.last + 1 - l.p

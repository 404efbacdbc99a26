-- `occurs` meets its contract. Invariant (`Trying`): the string stands at no place before `at`, and its first byte stands there. A try in
-- vain moves to the next likely place (`try_sought`).
use Rattle.machine_window.proofs.Moving.{Trying}
use Rattle.machine_window.proofs.occurs.Given as goal

abbrev pub invariant-loop-try : goal.invariant-loop-try
invariant-loop-try l = Trying l.w l.text 0 l.at 1

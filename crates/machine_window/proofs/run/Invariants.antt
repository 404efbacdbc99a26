-- `run` meets its contract. Invariant: the first i bytes of the string stand from p on. A turn looks at one byte more.
use Rattle.machine_window.specs.Loops.{Stand}
use Rattle.machine_window.proofs.run.Given as goal

abbrev pub invariant-loop-i : goal.invariant-loop-i
invariant-loop-i l = Stand l.w l.text l.p l.i

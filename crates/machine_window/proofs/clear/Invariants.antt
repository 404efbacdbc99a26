-- `clear` meets its contract. Invariant: where `none` is still true, the string stands at none of the i places from p on. A turn rules out
-- one place more (`clear_more`).
use Prim.Native.Nat.{◌+◌}
use mathlib.Core.Path.{◌≡◌}
use mathlib.Core.Bool.{true}
use Rattle.machine_window.specs.Loops.{Clear}
use Rattle.machine_window.proofs.clear.Given as goal

abbrev pub invariant-loop-i : goal.invariant-loop-i
invariant-loop-i l = l.none ≡ true → Clear l.w l.text l.p (l.p + l.i)

-- `alike` meets its contract. Invariant: where `all` is still true, the i + k first bytes of the string stand from p on. A turn looks at
-- one byte more.
use Prim.Native.Nat.{◌+◌}
use mathlib.Core.Path.{◌≡◌}
use mathlib.Core.Bool.{true}
use Rattle.machine_window.specs.Loops.{Stand}
use Rattle.machine_window.proofs.alike.Given as goal

abbrev pub invariant-loop-k : goal.invariant-loop-k
invariant-loop-k l = l.all ≡ true → Stand l.w l.text l.p (l.i + l.k)

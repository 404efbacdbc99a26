-- A quotient of fewer than the divisor is 0.
use native.Mathlib.Omega.{arith}
use mathlib.Core.Path.{sym, ap}
use Prim.Native.Nat.{◌/◌}
use native.Mathlib.Nat.{div-eq_of_lt}
use Rattle.machine_reply_fmm.proofs.times.Goals as goal

pub returns-in-Some : goal.returns-in-Some
returns-in-Some c = let h = c.in-Some.ensures in ap (λ n. c.args.free / n) (omega (arith, h.1))

pub returns-in-None : goal.returns-in-None
returns-in-None c = let h = c.in-None.ensures in sym (div-eq_of_lt (omega arith))

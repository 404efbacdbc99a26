-- `join_bytes` meets its contract. Invariant: the first i bytes of z are the bitwise and of those of x and y.
use Prim.Native.Nat.{ℕ, ◌<◌}
use mathlib.Core.Path.{◌≡◌}
use lib.ListN.{length, get_or}
use lib.Bits.{bit_and}
use Rattle.machine_rights.proofs.join_bytes.Given as goal

abbrev pub invariant-loop-i : goal.invariant-loop-i
invariant-loop-i l = (length l.z ≡ 17) × ((j : ℕ) → j < l.i → get_or l.z j 0 ≡ bit_and (get_or l.x j 0) (get_or l.y j 0))

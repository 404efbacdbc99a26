-- `number` meets its contract. Invariant: n is the number that the bytes so far are, and has no more bits than they. A turn reads one byte
-- more (`big_more`, `more_bits`).
use Prim.Native.Nat.{◌<◌, ◌*◌, ◌^◌}
use mathlib.Core.Path.{◌≡◌}
use lib.ListN.{take}
use Rattle.objects_writer.specs.Number.{big}
use Rattle.objects_reader.proofs.number.number.Given as goal

abbrev pub invariant-loop-b : goal.invariant-loop-b
invariant-loop-b l = (l.n ≡ big (take l.b-index l.b-items)) × (l.n < 2 ^ (8 * l.b-index))

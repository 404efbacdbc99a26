-- `machine_reply_search::put_numbers` meets its contract. Invariant: the objects of the first k numbers are stored. A turn stores one more
-- behind them (`listed-turn`).
use mathlib.Core.Path.{◌≡◌}
use lib.ListN.{length, take}
use lib.Seq.{sets}
use Rattle.machine_reply_search.specs.Found.{listed}
use Rattle.machine_reply_search.proofs.put_numbers.Given as goal

abbrev pub invariant-loop-k : goal.invariant-loop-k
invariant-loop-k l = (length l.out ≡ length l.initial.out) × (l.out ≡ sets l.initial.out l.at (listed (take l.k l.numbers)))

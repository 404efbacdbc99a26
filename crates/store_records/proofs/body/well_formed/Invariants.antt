-- `store_records::body::well_formed` meets its contract. Invariant: the records passed are right, and `at`, the place behind them, is within
-- the body. A record that is right lies whole in the body, so the next place does too; one that is not makes the answer false
-- (`body_ok-refused`).
use Prim.Native.Nat.{◌≤◌}
use mathlib.Core.Path.{◌≡◌}
use mathlib.Core.Bool.{true}
use lib.ListN.{length}
use Rattle.store_records.specs.Body.{place, ok_to}
use Rattle.store_records.proofs.body.well_formed.Given as goal

abbrev pub invariant-loop : goal.invariant-loop
invariant-loop l = (l.at ≡ place l.body l.counter) × (l.at ≤ length l.body) × (ok_to l.longest l.body l.counter ≡ true)

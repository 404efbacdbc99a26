-- `store_records::body::place_of` meets its contract. Invariant: `at` is the place behind the records passed, and at most 2 + 65,537 times
-- their number, since a length has two bytes. A turn goes to the next place (`place-turn`).
use Prim.Native.Nat.{◌+◌, ◌*◌, ◌≤◌}
use mathlib.Core.Path.{◌≡◌}
use Rattle.store_records.specs.Body.{place}
use Rattle.store_records.proofs.body.place_of.Given as goal

abbrev pub invariant-loop : goal.invariant-loop
invariant-loop l = (l.at ≡ place l.body l.counter) × (l.at ≤ 2 + 65537 * l.counter)

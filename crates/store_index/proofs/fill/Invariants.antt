-- `store_index::fill` meets its contract. Invariant: the places passed are written, and `at` is the place of the next record. The list is that
-- of the definition with one place more at each turn (`places-turn`); at the end the first n are (`places_done`).
use mathlib.Core.Path.{◌≡◌}
use lib.Seq.{sets}
use Rattle.store_records.specs.Body.{place}
use Rattle.store_index.specs.Index.{places_to}
use Rattle.store_index.proofs.fill.Given as goal

abbrev pub invariant-loop-place : goal.invariant-loop-place
invariant-loop-place l =
    (l.place-items ≡ sets l.initial.place-items 0 (places_to l.body l.place-index)) × (l.at ≡ place l.body l.place-index)

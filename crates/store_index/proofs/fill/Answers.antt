use mathlib.Core.Path.{refl, sym}
use Prim.Native.Nat.{◌+◌, ◌≤◌, ◌<◌}
use native.Mathlib.Omega.{arith}
use lib.ListN.{length}
use lib.Seq.{length-take-le}
use Rattle.store_records.specs.Little.{le16}
use Rattle.store_records.specs.Body.{place}
use Rattle.store_records.proofs.Bodies.{place-zero, place-turn, place_lt}
use Rattle.store_index.specs.Index.{places_to}
use Rattle.store_index.proofs.Places.{places-turn, places_done}
use Rattle.store_index.proofs.fill.Goals as goal
use Rattle.store_index.proofs.fill.Goals.{In-loop-place}

-- the place is one of the first n
before : (c : In-loop-place) → c.loop-place.place-index < c.args.n
before c = let l = length-take-le c.args.n c.args.places.now c.requires.2 in omega (arith, l, c.loop-place-test.true)

-- the record at `at` is within the body
fits_in : (c : In-loop-place) → c.loop-place.at + 2 + le16 c.args.body.now c.loop-place.at ≤ length c.args.body.now
fits_in c =
    let xs = c.args.body.now in
    let p = place_lt xs c.loop-place.place-index c.args.n (before c) in
    rw c.loop-place.invariant.1 (omega arith)

small-in : (c : In-loop-place) → c.loop-place.at < 262144
small-in c =
    let p = place_lt c.args.body.now c.loop-place.place-index c.args.n (before c) in
    let q : place c.args.body.now c.args.n < 262144 = c.requires.1 in
    rw c.loop-place.invariant.1 (omega arith)

pub loop-place-init : goal.loop-place-init
unfolding places_to
loop-place-init c = (refl, sym (place-zero _))

pub overflow_cast-place : goal.overflow_cast-place
overflow_cast-place c = omega (arith, small-in (goal.at.overflow_cast-place c).In-loop-place)

pub overflow_add-at : goal.overflow_add-at
overflow_add-at c = omega (arith, fits_in (goal.at.overflow_add-at c).In-loop-place)

pub overflow_add-at-in-loop-place : goal.overflow_add-at-in-loop-place
overflow_add-at-in-loop-place c = omega (arith, fits_in (goal.at.overflow_add-at-in-loop-place c).In-loop-place)

pub loop-place-preserved : goal.loop-place-preserved
loop-place-preserved c =
    let inv = c.loop-place.invariant in (places-turn _ _ _ _ _ inv.0 inv.1, place-turn _ _ _ _ inv.1 c.read16.ensures.0)

pub returns : goal.returns
returns c =
    let l = length-take-le c.args.n c.args.places.now c.requires.2 in
    places_done _ _ _ _ _ c.loop-place.invariant.0 (omega (arith, l, c.loop-place-test.false)) c.requires.2

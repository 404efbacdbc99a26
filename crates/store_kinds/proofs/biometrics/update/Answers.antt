-- `store_kinds::biometrics::update` meets its contract.
use mathlib.Core.Path.{◌≡◌}
use mathlib.Core.Bool.{true}
use native.Mathlib.Omega.{arith}
use lib.ListN.{length}
use Rattle.base.proofs.Cases.{flag_accepted}
use Rattle.store_kinds.specs.Biometrics.{updatable}
use Rattle.store_kinds.proofs.Updating.{bio_ok_facts, updatable_accepted, update_accepted}
use Rattle.store_kinds.proofs.biometrics.update.Goals as goal
use Rattle.store_kinds.proofs.biometrics.update.Goals.{After-write-arg-1}

can : (c : After-write-arg-1) → updatable c.args.body.now c.args.offset (length c.args.«data».now) ≡ true
can c =
    let o = flag_accepted c.well_formed-2.ensures c.if-not-well_formed.false-raw in
    let f = bio_ok_facts _ o in
    updatable_accepted _ _ _ o (omega arith) (omega (arith, f.within))

pub overflow_sub-room : goal.overflow_sub-room
overflow_sub-room c = let f = bio_ok_facts _ (flag_accepted c.well_formed-2.ensures c.if-not-well_formed.false-raw) in omega (arith, f.within)

pub write-requires : goal.write-requires
write-requires c = (can (goal.at.write-requires c).After-write-arg-1, c.written-w.ensures.0)

pub returns : goal.returns
returns c = update_accepted _ _ _ _ (can (goal.at.returns c).After-write-arg-1) c.write.ensures

-- `store_cut::activate_stores` meets its contract.
use native.Mathlib.Omega.{arith}
use Rattle.base.proofs.Cases.{flag_refused, flag_accepted}
use Rattle.store_kinds.proofs.Updating.{bio_ok_facts}
use Rattle.store_cut.proofs.Making.{state_accepted, state-refused}
use Rattle.store_cut.proofs.activate_stores.Goals as goal

pub returns-then-not-well_formed : goal.returns-then-not-well_formed
returns-then-not-well_formed c = state-refused _ _ _ (flag_refused c.well_formed-2.ensures c.if-not-well_formed.true-raw)

pub make_one-requires : goal.make_one-requires
make_one-requires c = omega (arith, (bio_ok_facts _ (flag_accepted c.well_formed-2.ensures c.if-not-well_formed.false-raw)).long)

pub returns : goal.returns
returns c = state_accepted _ _ _ _ (flag_accepted c.well_formed-2.ensures c.if-not-well_formed.false-raw) c.make_one.ensures.1

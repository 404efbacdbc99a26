-- `store_cut::append_stores` meets its contract.
use mathlib.Core.Path.{◌≡◌}
use mathlib.Core.Bool.{true}
use lib.ListN.{length}
use Rattle.base.proofs.Cases.{flag_refused, flag_accepted}
use Rattle.store_records.specs.Body.{appendable}
use Rattle.store_cut.proofs.Making.{record_accepted, record_refused}
use Rattle.store_cut.proofs.append_stores.Goals as goal
use Rattle.store_cut.proofs.append_stores.Goals.{After-make_record-arg-1}

can : (c : After-make_record-arg-1) → appendable c.args.body.now (length c.args.«data».now) ≡ true
can c = flag_accepted c.takes.ensures c.if-not-takes.false-raw

pub returns-then-not-takes : goal.returns-then-not-takes
returns-then-not-takes c = record_refused _ _ _ (flag_refused c.takes.ensures c.if-not-takes.true-raw)

pub make_record-requires : goal.make_record-requires
make_record-requires c = (c.used-at.ensures.0, c.count-n.ensures.0, can (goal.at.make_record-requires c).After-make_record-arg-1)

pub returns : goal.returns
returns c = record_accepted _ _ _ _ (can (goal.at.returns c).After-make_record-arg-1) c.make_record.ensures

-- `store_records::body::record` meets its contract.
use mathlib.Core.Path.{sym, ◌∙◌}
use native.Mathlib.Omega.{arith}
use Rattle.store_records.proofs.Bodies.{nth-zero, nth_past, nth-at, records-length}
use Rattle.store_records.proofs.body.record.Goals.{then-n-eq0-via-then-n-eq0, then-n-eq0-via-else-n-eq0+then-count-n}
use Rattle.store_records.proofs.body.record.Goals as goal

pub returns-then-n-eq0 : goal.returns-then-n-eq0
returns-then-n-eq0 c =
    c.part.ensures
    ∙ elim c.then-n-eq0.branch [
      | then-n-eq0-via-then-n-eq0 w ↦ sym (nth-zero _ _ w.if-n-eq0.true)
      | then-n-eq0-via-else-n-eq0+then-count-n w ↦ sym (nth_past _ _ (let l = records-length c.args.body.now in omega arith))
    ]

pub returns : goal.returns
returns c = c.record_at.ensures ∙ nth-at _ _ _ (omega arith) (omega arith) c.place_of.ensures.0

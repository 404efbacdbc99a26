-- `extended_shape` meets its contract: one law of Rows for each of its answers.
use mathlib.Core.Path.{◌∙◌}
use native.Mathlib.Omega.{arith}
use Rattle.machine_apdu.proofs.Rows.{shape_no_data_refused, shape_too_much_refused, shape_case3_extended, shape_case4_extended, shape-extended-refused}
use Rattle.machine_apdu.proofs.extended_shape.Goals.{then-w-eq0-via-then-w-eq0, then-w-eq0-via-else-w-eq0+then-w-gt1024}
use Rattle.machine_apdu.proofs.extended_shape.Goals as goal

pub returns-then-w-eq0 : goal.returns-then-w-eq0
returns-then-w-eq0 c =
    let p = c.requires in
    elim c.then-w-eq0.branch [
      | then-w-eq0-via-then-w-eq0 w ↦ shape_no_data_refused _ p.0 _ p.1 (omega arith) (omega arith) (omega (arith, w.if-w-eq0.true))
      | then-w-eq0-via-else-w-eq0+then-w-gt1024 w ↦ shape_too_much_refused _ p.0 _ p.1 (omega arith) (omega arith) (omega (arith, w.if-w-gt1024.true))
    ]

pub returns-then-n-w : goal.returns-then-n-w
returns-then-n-w c = c.framed.ensures ∙ shape_case3_extended _ (omega arith) _ (omega arith) (omega arith) (omega arith) (omega arith) (omega arith)

pub returns-then-n-w-2 : goal.returns-then-n-w-2
returns-then-n-w-2 c =
    c.framed-then-n-w-2.ensures
    ∙ shape_case4_extended _ (omega arith) _ (omega arith) (omega arith) (omega arith) (omega arith) _ _ c.be16_at.ensures.0
    c.or_most.ensures (omega arith)

pub returns : goal.returns
returns c =
    let p = c.requires in
    shape-extended-refused _ p.0 _ p.1 (omega arith) (omega arith) (omega arith) (omega arith) (omega arith) (omega arith)

-- `short_shape` meets its contract: one law of Rows for each of its answers.
use mathlib.Core.Path.{◌∙◌}
use native.Mathlib.Omega.{arith}
use Rattle.machine_apdu.proofs.Rows.{shape_case3_short, shape_case4_short, shape-short-refused}
use Rattle.machine_apdu.proofs.short_shape.Goals as goal

pub returns-then-n-b : goal.returns-then-n-b
returns-then-n-b c = c.framed.ensures ∙ shape_case3_short _ _ (omega arith) (omega arith) (omega arith) (omega arith) (omega arith)

pub returns-then-n-b-2 : goal.returns-then-n-b-2
returns-then-n-b-2 c =
    c.framed-then-n-b-2.ensures
    ∙ shape_case4_short _ _ (omega arith) (omega arith) (omega arith) (omega arith) _ _ c.byte.ensures.0
    c.or_most.ensures (omega arith)

pub returns : goal.returns
returns c =
    let p = c.requires in
    shape-short-refused _ _ p.0 (omega arith) (omega arith) (omega arith) (omega arith) (omega arith)

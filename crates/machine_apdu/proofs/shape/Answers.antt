-- `shape` meets its contract: one law of Rows for each of its answers.
use mathlib.Core.Path.{refl, ◌∙◌}
use native.Mathlib.Omega.{arith}
use Rattle.machine_apdu.proofs.Rows.{shape_under_four_refused, shape_case1, shape_case2_short, shape_six_refused, shape_case2_extended}
use Rattle.machine_apdu.proofs.shape.Goals as goal

pub returns-then-n-lt4 : goal.returns-then-n-lt4
returns-then-n-lt4 c = shape_under_four_refused _ (omega arith)

pub returns-then-n-eq4 : goal.returns-then-n-eq4
returns-then-n-eq4 c = c.framed.ensures ∙ shape_case1 _ (omega arith)

pub returns-then-n-eq5 : goal.returns-then-n-eq5
returns-then-n-eq5 c =
    c.framed-then-n-eq5.ensures
    ∙ shape_case2_short _ _ _ c.byte-b.ensures.0 c.or_most.ensures (omega arith)

pub returns-then-n-lt7 : goal.returns-then-n-lt7
returns-then-n-lt7 c = shape_six_refused _ (omega arith) _ refl (omega arith) (omega arith)

pub returns-then-n-eq7 : goal.returns-then-n-eq7
returns-then-n-eq7 c =
    c.framed-then-n-eq7.ensures
    ∙ shape_case2_extended _ (omega arith) _ c.be16_at-w.ensures.0 (omega arith) _ c.or_most-then-n-eq7.ensures (omega arith)

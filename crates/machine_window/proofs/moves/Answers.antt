use native.Mathlib.Omega.{arith}
use lib.ListN.{length-set}
use Rattle.machine_window.proofs.Moving.{built_more, built_none, built_fall}
use Rattle.machine_window.proofs.moves.Goals as goal

pub loop-p-preserved-then-text-j : goal.loop-p-preserved-then-text-j
loop-p-preserved-then-text-j c =
    let i = c.loop-p.invariant in
    (i.0, simp length-set i.1, built_more _ _ _ _ _ i.2 (omega arith) c.loop-p-test.true c.if-text-j.true)

pub loop-p-preserved-then-q-eq0 : goal.loop-p-preserved-then-q-eq0
loop-p-preserved-then-q-eq0 c =
    let i = c.loop-p.invariant in
    (i.0, simp length-set i.1, built_none _ _ _ _ _ i.2 (omega arith) c.loop-p-test.true c.if-text-j.false c.if-q-eq0.true)

pub loop-p-preserved : goal.loop-p-preserved
loop-p-preserved c =
    let i = c.loop-p.invariant in
    (i.0, i.1, built_fall _ _ _ _ _ i.2 (omega arith) c.loop-p-test.true c.if-text-j.false c.if-q-eq0.false)

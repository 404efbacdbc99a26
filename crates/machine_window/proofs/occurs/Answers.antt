use native.Mathlib.Omega.{arith}
use native.Mathlib.Nat.{le_refl}
use mathlib.Core.Path.{refl, sym}
use Rattle.machine_window.proofs.Occurring.{occurs_none, occurs_short}
use Rattle.machine_window.proofs.Moving.{least-one, try_sought, try_none, try_found, try_same}
use Rattle.machine_window.proofs.occurs.Goals as goal

pub returns-then-m-eq0 : goal.returns-then-m-eq0
returns-then-m-eq0 c = sym (occurs_none _ _ c.if-m-eq0.true)

pub returns-then-n-m : goal.returns-then-n-m
returns-then-n-m c = sym (occurs_short _ _ c.if-n-m.true)

pub loop-try-init : goal.loop-try-init
loop-try-init c = try_sought _ _ _ _ _ (omega arith) c.seek-at.ensures refl

pub returns-then-last-at : goal.returns-then-last-at
returns-then-last-at c = try_none _ _ _ _ _ c.loop-try.invariant (omega arith) (omega arith)

pub returns-then-r-m : goal.returns-then-r-m
returns-then-r-m c = try_found _ _ _ _ _ c.loop-try.invariant c.run-r.ensures c.if-r-m.true (omega arith)

pub loop-try-preserved : goal.loop-try-preserved
loop-try-preserved c =
    let t = c.loop-try.invariant in
    let r = c.run-r.ensures in
    try_sought _ _ _ _ _ (omega arith) c.seek-at-in-loop-try.ensures
    (try_same _ _ _ _ _ t r _ _ (omega arith) (omega arith) (least-one _ _ (le_refl _) (le_refl _)))

pub returns-then-last-at-2 : goal.returns-then-last-at-2
returns-then-last-at-2 c = try_none _ _ _ _ _ c.loop-try.invariant (omega arith) (omega arith)

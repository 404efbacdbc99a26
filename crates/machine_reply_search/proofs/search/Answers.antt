use Prim.Native.Nat.{min}
use mathlib.Core.Path.{◌∙◌, ap}
use Rattle.machine_reply_search.proofs.Searching.{sought_start, sought_miss, sought_hit, sought_one, sought_end}
use Rattle.machine_reply_search.proofs.search.Goals as goal
use Rattle.machine_reply_search.proofs.search.Goals.{then-found+else-one, else-found}

pub loop-i-init : goal.loop-i-init
loop-i-init c = sought_start _ _ _ _ _ _ (c.min-end.ensures ∙ ap (λ k. min k 254) c.count.ensures.0)

pub returns-then-one : goal.returns-then-one
returns-then-one c = sought_one _ _ _ _ _ _ _ _ _ _ c.loop-i.invariant c.loop-i-test.true _ _ c.record_at.ensures c.matches-found.ensures c.if-found.true c.if-one.true

pub loop-i-preserved : goal.loop-i-preserved
loop-i-preserved c =
    let i = c.loop-i.invariant in
    elim c.if-found.branch [
      | then-found+else-one w ↦ rw (w.numbers-is, w.n-is) (sought_hit _ _ _ _ _ _ _ _ _ _ i c.loop-i-test.true _ _ c.record_at.ensures c.matches-found.ensures _ c.behind-at.ensures w.if-found.true w.if-one.false)
      | else-found w ↦ rw (w.numbers-is, w.n-is) (sought_miss _ _ _ _ _ _ _ _ _ _ i c.loop-i-test.true _ _ c.record_at.ensures c.matches-found.ensures _ c.behind-at.ensures w.if-found.false)
    ]

pub returns : goal.returns
returns c = sought_end _ _ _ _ _ _ _ _ _ _ c.loop-i.invariant c.loop-i-test.false

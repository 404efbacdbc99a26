-- The lesser of the two numbers.
use lib.ListN.{length}
use mathlib.Core.Path.{ap, ap₂, ◌∙◌}
use Prim.Native.Nat.{ℕ, ◌+◌, ◌-◌, ◌/◌, min}
use Rattle.machine_reply_fmm.specs.Report.{further}
use Rattle.machine_reply_fmm.proofs.further.Goals as goal

pub returns : goal.returns
unfolding further
returns c =
    let a = c.args in
    c.min.ensures
    ∙ ap₂ min
    (c.saturating_sub-left.ensures ∙ ap (λ (x : ℕ). a.most - x) c.count.ensures.0)
    (c.times.ensures ∙ ap (λ (x : ℕ). x / (2 + a.longest)) (c.saturating_sub-free.ensures ∙ ap (λ (x : ℕ). length a.body.now - x) c.used.ensures.0))

-- The differences are those of numbers as they are counted.
use mathlib.Core.Path.{ap₂, ◌∙◌}
use Prim.Native.Nat.{ℕ, ◌-◌, ◌*◌}
use Rattle.machine_reply_fmm.specs.Report.{capacity}
use Rattle.machine_reply_fmm.proofs.capacity.Goals as goal

pub returns : goal.returns
unfolding capacity
returns c = c.saturating_sub-2.ensures ∙ ap₂ (λ (x y : ℕ). x - 2 * y) c.saturating_sub.ensures c.count.ensures.0

-- `base::same_bytes` meets its contract: `==` of slices compares pair by pair (`same_pointwise`).
use mathlib.Core.Path.{◌∙◌}
use Rattle.base.proofs.Same.{same_pointwise}
use Rattle.base.proofs.same_bytes.Goals as goal

pub returns : goal.returns
returns c = c.eq.ensures ∙ same_pointwise _ _

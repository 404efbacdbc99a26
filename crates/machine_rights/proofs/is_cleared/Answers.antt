-- `is_cleared` meets its contract: it compares with the cleared form.
use mathlib.Core.Path.{sym, ap, ◌∙◌}
use Rattle.machine_rights.specs.Chain.{same, is_cleared}
use Rattle.machine_rights.proofs.Elements.{same_is}
use Rattle.machine_rights.proofs.is_cleared.Goals as goal

pub returns : goal.returns
unfolding is_cleared
returns c = c.eq.ensures ∙ sym (same_is _ _) ∙ ap (λ r. same r c.args.r) c.clear.ensures

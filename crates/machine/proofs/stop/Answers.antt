-- `machine::stop` meets its contract.
use Rattle.machine_chain.proofs.Laws.{end_blank}
use mathlib.Core.Path.{◌∙◌}
use Rattle.machine.proofs.stop.Goals as goal

pub returns : goal.returns
returns c = (c.status_only.ensures.0, c.status_only.ensures.1, c.end.ensures ∙ end_blank _ c.requires)

-- `store_files::agrees` meets its contract.
use mathlib.Core.Path.{◌∙◌}
use Rattle.store_files.specs.Master.{aid_prefix}
use Rattle.store_files.proofs.Aids.{agrees_prefix}
use Rattle.store_files.proofs.agrees.Goals as goal

pub returns : goal.returns
unfolding aid_prefix
returns c = c.starts_with.ensures.value ∙ agrees_prefix _

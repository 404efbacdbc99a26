-- `machine_cut::make` meets its contract.
use Rattle.machine_cut.proofs.Cutting.{cut_to}
use Rattle.machine_cut.proofs.make.Goals as goal

pub returns-in-Some : goal.returns-in-Some
returns-in-Some c = cut_to _ _ _ _ _ _ _ _ c.in-Some.is c.make_stores.ensures

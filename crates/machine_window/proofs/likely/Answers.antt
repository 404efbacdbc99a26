-- A string stands nowhere where one of its bytes does not.
use Rattle.machine_window.proofs.Clearing.{two_tell}
use Rattle.machine_window.proofs.likely.Goals as goal

pub returns : goal.returns
returns c = two_tell _ _ _ _ c.requires.1

-- `machine::command` meets its contract.
use Rattle.machine.proofs.Accepting.{judged-told, obey_ready, command_denied, command_stopped, command_linked, command-obeyed}
use mathlib.Core.Path.{sym, ◌∙◌}
use Rattle.machine.proofs.command.Goals as goal

pub stop-requires : goal.stop-requires
stop-requires c = (judged-told _ _ _ _ _ (sym c.judged.ensures ∙ c.in-Stopped.is)).0.chain

pub obey-requires : goal.obey-requires
obey-requires c = obey_ready _ _ _ _ _ (sym c.judged.ensures ∙ c.in-Obeyed.is) c.part-own-in-Obeyed.ensures

pub returns-in-Denied : goal.returns-in-Denied
returns-in-Denied c = command_denied _ _ _ _ _ _ (sym c.judged.ensures ∙ c.in-Denied.is) c.refused.ensures

pub returns-in-Stopped : goal.returns-in-Stopped
returns-in-Stopped c = command_stopped _ _ _ _ _ _ (sym c.judged.ensures ∙ c.in-Stopped.is) c.stop.ensures

pub returns-in-Linked : goal.returns-in-Linked
returns-in-Linked c = command_linked _ _ _ _ _ _ (sym c.judged.ensures ∙ c.in-Linked.is) c.part-own.ensures c.link.ensures

pub returns-in-Obeyed : goal.returns-in-Obeyed
returns-in-Obeyed c = command-obeyed _ _ _ _ _ _ (sym c.judged.ensures ∙ c.in-Obeyed.is) c.part-own-in-Obeyed.ensures c.obey.ensures

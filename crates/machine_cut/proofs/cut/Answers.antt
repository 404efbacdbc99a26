-- `machine_cut::cut` meets its contract.
use Rattle.machine_cut.proofs.Cutting.{cut_denied, cut_stopped, cut_linked, cut-obeyed}
use Rattle.machine.proofs.Accepting.{obey_ready}
use mathlib.Core.Path.{sym, ◌∙◌}
use mathlib.Core.Logic.{inl, inr}
use Rattle.machine_cut.proofs.cut.Goals as goal

pub obey-requires : goal.obey-requires
obey-requires c = obey_ready _ _ _ _ _ (sym c.judged.ensures ∙ c.in-Obeyed.is) c.part-own.ensures

pub returns-in-Denied : goal.returns-in-Denied
returns-in-Denied c = cut_denied _ _ _ _ _ _ (sym c.judged.ensures ∙ c.in-Denied.is)

pub returns-in-Stopped : goal.returns-in-Stopped
returns-in-Stopped c =
    elim c.in-Stopped.is [
      | inl p ↦ cut_stopped _ _ _ _ _ _ (sym c.judged.ensures ∙ p.1)
      | inr p ↦ cut_linked _ _ _ _ _ _ (sym c.judged.ensures ∙ p.1)
    ]

pub returns-in-Obeyed : goal.returns-in-Obeyed
returns-in-Obeyed c = cut-obeyed _ _ _ _ _ _ (sym c.judged.ensures ∙ c.in-Obeyed.is) c.part-own.ensures c.obey.ensures

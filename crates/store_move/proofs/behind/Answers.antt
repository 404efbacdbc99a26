-- `store_move::behind` meets its contract.
use native.Mathlib.Omega.{arith}
use mathlib.Core.Path.{sym, ◌∙◌}
use Rattle.store_move.proofs.Walk.{met_whole, met_next}
use Rattle.store_move.proofs.behind.Goals as goal

pub overflow_add-result : goal.overflow_add-result
overflow_add-result c = omega (arith, met_whole _ _ _ c.requires (sym c.met.ensures ∙ c.if-met.true))

pub overflow_add-result-then-met : goal.overflow_add-result-then-met
overflow_add-result-then-met c = omega (arith, met_whole _ _ _ c.requires (sym c.met.ensures ∙ c.if-met.true))

pub returns-then-met : goal.returns-then-met
returns-then-met c = met_next _ _ _ c.requires (sym c.met.ensures ∙ c.if-met.true) _ c.read32.ensures.0

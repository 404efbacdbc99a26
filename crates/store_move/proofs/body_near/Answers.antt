-- `store_move::body_near` meets its contract.
use mathlib.Core.Path.{sym, ◌∙◌}
use native.Mathlib.Omega.{arith}
use Rattle.store_move.proofs.Walk.{met_whole, met_body}
use Rattle.store_move.proofs.body_near.Goals as goal

pub overflow_add-from : goal.overflow_add-from
overflow_add-from c = omega (arith, met_whole _ _ _ c.requires (sym c.met.ensures ∙ c.if-met.true))

pub returns-then-met : goal.returns-then-met
returns-then-met c = c.part.ensures ∙ met_body _ _ _ c.requires (sym c.met.ensures ∙ c.if-met.true) _ c.read32.ensures.0

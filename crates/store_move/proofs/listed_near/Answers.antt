-- `store_move::listed_near` meets its contract.
use mathlib.Core.Path.{sym, ◌∙◌}
use Rattle.store_move_plan.specs.Rooms.{rows}
use Rattle.store_move_plan.proofs.Blank.{row_listed}
use Rattle.store_move.proofs.listed_near.Goals as goal

pub returns-then-read16-kind : goal.returns-then-read16-kind
unfolding rows
returns-then-read16-kind c = sym (row_listed _ _ _ c.if-i-list.true (sym c.read16.ensures.0 ∙ c.if-read16-kind.true))

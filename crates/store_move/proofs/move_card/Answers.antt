-- `store_move::move_card` meets its contract.
use mathlib.Core.Path.{sym, ◌∙◌}
use native.Mathlib.Omega.{arith}
use Rattle.base.proofs.Cases.{flag_accepted}
use Rattle.store_move.proofs.Moves.{moved-length-plan, move_card_short_target, move_card_accepted}
use Rattle.store_move.proofs.move_card.Goals as goal

pub returns-then-target-n : goal.returns-then-target-n
returns-then-target-n c = move_card_short_target _ _ _ (flag_accepted c.well_formed-2.ensures c.if-not-well_formed.false-raw) _ (sym c.plan.ensures ∙ c.in-Some.is) (flag_accepted c.lists.ensures c.if-not-lists.false-raw) (flag_accepted c.roomy.ensures c.if-not-roomy.false-raw) c.if-target-n.true

pub write-requires : goal.write-requires
write-requires c = (flag_accepted c.well_formed-2.ensures c.if-not-well_formed.false-raw, flag_accepted c.roomy.ensures c.if-not-roomy.false-raw, omega (arith, moved-length-plan _ _ c.args.target.now (flag_accepted c.well_formed-2.ensures c.if-not-well_formed.false-raw) _ (sym c.plan.ensures ∙ c.in-Some.is) (flag_accepted c.lists.ensures c.if-not-lists.false-raw) (flag_accepted c.roomy.ensures c.if-not-roomy.false-raw)))

pub returns : goal.returns
returns c = move_card_accepted _ _ _ (flag_accepted c.well_formed-2.ensures c.if-not-well_formed.false-raw) _ (sym c.plan.ensures ∙ c.in-Some.is) (flag_accepted c.lists.ensures c.if-not-lists.false-raw) (flag_accepted c.roomy.ensures c.if-not-roomy.false-raw) c.if-target-n.false _ c.write.ensures

-- `store_kinds::rules::present_by` meets its contract. Invariant (`Left`): the rules passed are met, so what is left of the table answers for
-- the whole. A rule that is met is passed (`left_next`); one that is not makes the answer false (`left_missing`).
use Rattle.store_kinds.proofs.Presence.{Left}
use Rattle.store_kinds.proofs.rules.present_by.Given as goal

abbrev pub invariant-loop-rule : goal.invariant-loop-rule
invariant-loop-rule g l = Left (g.K.Kinds.kinds l.card) l.application l.rule-index

-- `store_kinds::rules::find_rule` meets its contract. Invariant (`Looking`): the rules passed do not have the key, so what is left of the table
-- answers for the whole. A rule without the key is passed (`looking_next`).
use Rattle.store_kinds.proofs.Table.{Looking}
use Rattle.store_kinds.proofs.rules.find_rule.Given as goal

abbrev pub invariant-loop-rule : goal.invariant-loop-rule
invariant-loop-rule l = Looking l.key l.rule-index

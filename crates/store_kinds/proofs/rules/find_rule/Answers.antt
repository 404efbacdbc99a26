use mathlib.Core.Path.{sym, ◌∙◌}
use native.Mathlib.Omega.{arith}
use Rattle.store_kinds.specs.Rules.{rules}
use Rattle.store_kinds.proofs.Table.{looking_start, looking_hit, looking_next, looking_end}
use Rattle.store_kinds.proofs.rules.find_rule.Goals as goal

pub loop-rule-init : goal.loop-rule-init
loop-rule-init c = looking_start _

pub returns-then-has_key : goal.returns-then-has_key
unfolding rules
returns-then-has_key c = looking_hit _ c.loop-rule.rule-index c.loop-rule.invariant (omega arith) (sym c.has_key.ensures ∙ c.if-has_key.true)

pub loop-rule-preserved : goal.loop-rule-preserved
unfolding rules
loop-rule-preserved c = looking_next _ c.loop-rule.rule-index c.loop-rule.invariant (omega arith) (sym c.has_key.ensures ∙ c.if-has_key.false)

pub returns : goal.returns
returns c = looking_end _ c.loop-rule.rule-index c.loop-rule.invariant (omega arith)

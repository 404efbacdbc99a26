use native.Mathlib.Omega.{arith}
use Rattle.base.proofs.Cases.{flag_refused, flag_accepted}
use Rattle.store_kinds.specs.Rules.{rules}
use Rattle.store_kinds.proofs.Presence.{left_next, left_missing, left_end}
use Rattle.store_kinds.proofs.rules.present_by.Goals as goal

pub returns-then-not-there : goal.returns-then-not-there
unfolding rules
returns-then-not-there g c =
    left_missing _ _ c.loop-rule.rule-index c.loop-rule.invariant (omega arith) (flag_refused c.there.ensures c.if-not-there.true-raw)

pub loop-rule-preserved : goal.loop-rule-preserved
unfolding rules
loop-rule-preserved g c =
    left_next _ _ c.loop-rule.rule-index c.loop-rule.invariant (omega arith) (flag_accepted c.there.ensures c.if-not-there.false-raw)

pub returns : goal.returns
returns g c = left_end _ _ c.loop-rule.rule-index c.loop-rule.invariant (omega arith)

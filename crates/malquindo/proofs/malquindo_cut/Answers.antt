-- `malquindo_cut` meets its contract.
use Rattle.malquindo.proofs.Calling.{cut-answered, cut-refused}
use Rattle.malquindo.specs.Face.{cut_result}
use Rattle.base.proofs.Cases.{flag_refused, flag_accepted}
use mathlib.Core.Path.{ap, ◌∙◌}
use Rattle.malquindo.proofs.malquindo_cut.Goals as goal

pub returns-then-not-is_session : goal.returns-then-not-is_session
returns-then-not-is_session c = cut-refused _ _ _ _ (flag_refused c.is_session.ensures c.if-not-is_session.true-raw) (c.cut_result.ensures ∙ ap (λ v. cut_result v 0) c.judge.ensures)

pub returns : goal.returns
returns c = cut-answered _ _ _ _ (flag_accepted c.is_session.ensures c.if-not-is_session.false-raw) c.session_in.ensures c.part.ensures c.cut-a.ensures c.cut_result-2.ensures

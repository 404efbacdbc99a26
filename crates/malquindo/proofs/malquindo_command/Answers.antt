-- `malquindo_command` meets its contract.
use Rattle.malquindo.proofs.Calling.{lent_rest}
use Rattle.machine_session_bytes.proofs.Laws.{is_session-long}
use Rattle.base.proofs.Parts.{rest}
use native.Mathlib.Omega.{arith}
use Rattle.malquindo.proofs.Calling.{called-answered, called-refused}
use Rattle.malquindo.specs.Face.{result_of}
use Rattle.base.proofs.Cases.{flag_refused, flag_accepted}
use mathlib.Core.Path.{ap, ◌∙◌}
use Rattle.malquindo.proofs.malquindo_command.Goals as goal

pub returns-then-not-is_session : goal.returns-then-not-is_session
returns-then-not-is_session c = called-refused _ _ _ _ (flag_refused c.is_session.ensures c.if-not-is_session.true-raw) (c.result.ensures ∙ ap (λ v. result_of v 0 0) c.judge.ensures)

pub slice_bounds-command-count : goal.slice_bounds-command-count
slice_bounds-command-count c = is_session-long _ (flag_accepted c.is_session.ensures c.if-not-is_session.false-raw)

pub slice_bounds-command-start : goal.slice_bounds-command-start
slice_bounds-command-start c = omega (arith, is_session-long _ (flag_accepted c.is_session.ensures c.if-not-is_session.false-raw))

pub returns : goal.returns
returns c = called-answered _ _ _ _ (flag_accepted c.is_session.ensures c.if-not-is_session.false-raw) c.session_in-given.ensures (rest 25 c.args.session.now) c.command-a.ensures (lent_rest c.args.session.now c.command-a.new.chain) c.keep.ensures c.result-2.ensures

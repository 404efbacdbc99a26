use mathlib.Core.Path.{refl, sym, ◌∙◌}
use native.Mathlib.Omega.{arith}
use borrow.Author.Tests.{eqb-true, eqb-false}
use Rattle.std.proofs.lemmas.Result.{err_from_is_err_and}
use Rattle.objects_extensions.proofs.Steps.{gave, walk_start, walk_end, walk_bad, walk_within, walk_less, walk_stop, walk_next}
use Rattle.objects_extensions.proofs.run.Goals as goal

pub loop-rest-init : goal.loop-rest-init
loop-rest-init c = (refl, omega arith, walk_start _ _)

pub returns-in_default : goal.returns-in_default
returns-in_default c = gave (walk_bad c.loop-rest.invariant.2 (eqb-false _ _ (sym c.is_empty.ensures ∙ c.loop-rest-test.true)) c.header.ensures c.in_default.is)

pub overflow_add-start : goal.overflow_add-start
overflow_add-start c = let h = walk_within c.loop-rest.invariant.2 (eqb-false _ _ (sym c.is_empty.ensures ∙ c.loop-rest-test.true)) c.header.ensures c.in-Ok.is in omega arith

pub split_at-requires : goal.split_at-requires
split_at-requires c = walk_within c.loop-rest.invariant.2 (eqb-false _ _ (sym c.is_empty.ensures ∙ c.loop-rest-test.true)) c.header.ensures c.in-Ok.is

pub returns-in_err-extension : goal.returns-in_err-extension
returns-in_err-extension c =
    let p = err_from_is_err_and c.from_residual.result c.from_residual.ensures.1 in
    rw (p.1, p.2) (gave (walk_stop c.loop-rest.invariant.2 (eqb-false _ _ (sym c.is_empty.ensures ∙ c.loop-rest-test.true)) c.header.ensures c.in-Ok.is c.split_at.ensures.front c.extension.ensures c.in_err-extension.was))

pub loop-rest-smaller : goal.loop-rest-smaller
loop-rest-smaller c = walk_less c.loop-rest.invariant.2 (eqb-false _ _ (sym c.is_empty.ensures ∙ c.loop-rest-test.true)) c.header.ensures c.in-Ok.is c.split_at.ensures.back

pub loop-rest-preserved : goal.loop-rest-preserved
loop-rest-preserved c =
    let less = walk_less c.loop-rest.invariant.2 (eqb-false _ _ (sym c.is_empty.ensures ∙ c.loop-rest-test.true)) c.header.ensures c.in-Ok.is c.split_at.ensures.back in
    (c.extension.auto.c ∙ c.loop-rest.invariant.0, omega arith, walk_next c.loop-rest.invariant.2 (eqb-false _ _ (sym c.is_empty.ensures ∙ c.loop-rest-test.true)) c.header.ensures c.in-Ok.is c.split_at.ensures.front c.extension.ensures c.in_ok-extension.was c.split_at.ensures.back)

pub returns : goal.returns
returns c = gave (walk_end c.loop-rest.invariant.2 (eqb-true _ _ (sym c.is_empty.ensures ∙ c.loop-rest-test.false)))

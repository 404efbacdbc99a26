-- `three_runs` reads the runs one behind the other, up to a fault, and then writes what they give.
use mathlib.Core.Path.{refl}
use native.Mathlib.Omega.{arith}
use Rattle.std.proofs.lemmas.Result.{err_from_is_err_and}
use Rattle.objects_extensions.proofs.Chains.{first-stops, second-stops, third-stops, none-stops, ran-fault, ran_all}
use Rattle.objects_extensions.proofs.three_runs.Goals as goal

pub returns-in_err-run : goal.returns-in_err-run
returns-in_err-run c =
    let p = err_from_is_err_and c.from_residual.result c.from_residual.ensures.1 in
    rw (p.1, p.2) (ran-fault _ _ _ _ (first-stops _ _ _ c.run.ensures c.in_err-run.was) refl)

pub returns-in_err-y : goal.returns-in_err-y
returns-in_err-y c =
    let p = err_from_is_err_and c.from_residual-in_err-y.result c.from_residual-in_err-y.ensures.1 in
    rw (p.1, p.2) (ran-fault _ _ _ _ (second-stops _ _ _ c.run.ensures c.in_ok-run.was c.run-y.ensures c.in_err-y.was) refl)

pub returns-in-Err : goal.returns-in-Err
returns-in-Err c =
    ran-fault _ _ _ _ (third-stops _ _ _ c.run.ensures c.in_ok-run.was c.run-y.ensures c.in_ok-y.was c.run-z.ensures c.in-Err.is) refl

pub returns : goal.returns
returns c =
    ran_all _ _ _ _ _ _ _ (none-stops _ _ _ c.run.ensures c.in_ok-run.was c.run-y.ensures c.in_ok-y.was c.run-z.ensures c.in_default.is) c.requires (omega arith) (omega arith) (omega arith) c.put.ensures.1 c.put-2.ensures.1 c.put-3.ensures.1

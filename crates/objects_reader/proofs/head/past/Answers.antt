-- `past` moves what it finds behind k bytes, and a length field has few.
use native.Mathlib.Omega.{arith}
use Rattle.std.proofs.lemmas.Result.{err_from_is_err_and}
use Rattle.objects_reader.proofs.Lengths.{length_of_small, length_of_past}
use Rattle.objects_reader.proofs.head.past.Goals as goal

pub overflow_add-result : goal.overflow_add-result
overflow_add-result c = omega (arith, length_of_small _ c.length_at.ensures c.in_ok-start.was)

pub returns-in_err-start : goal.returns-in_err-start
returns-in_err-start c =
    let p = err_from_is_err_and c.from_residual.result c.from_residual.ensures.1 in
    rw (p.1, p.2) (length_of_past c.args.s.now c.args.k c.length_at.ensures c.in_err-start.was)

pub returns : goal.returns
returns c = length_of_past c.args.s.now c.args.k c.length_at.ensures c.in_ok-start.was

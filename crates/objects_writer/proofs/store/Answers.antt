-- All of the bytes are stored, or none.
use mathlib.Core.Path.{sym, ◌∙◌}
use native.Mathlib.Omega.{arith}
use Rattle.objects_writer.proofs.Writings.{put_fits_facts, put_end_accepted, put_end-refused}
use Rattle.objects_writer.proofs.store.Goals as goal

pub overflow_add-result : goal.overflow_add-result
overflow_add-result c = omega (arith, put_fits_facts _ _ _ (sym c.put.ensures.0 ∙ c.if-put.true))

pub returns-then-put : goal.returns-then-put
returns-then-put c = let p = c.put.ensures in (put_end_accepted _ _ _ (sym p.0 ∙ c.if-put.true), p.1)

pub returns : goal.returns
returns c = let p = c.put.ensures in (put_end-refused _ _ _ (sym p.0 ∙ c.if-put.false), p.1)

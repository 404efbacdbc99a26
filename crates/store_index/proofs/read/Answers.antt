-- `store_index::read` meets its contract: one case for each answer of `measure`.
use mathlib.Core.Path.{refl, sym, ◌∙◌}
use native.Mathlib.Omega.{arith}
use Rattle.store_index.proofs.Answering.{told, part_counted}
use Rattle.store_index.proofs.read.Goals as goal
use Rattle.std.specs.Prelude.{Some}

pub overflow_sub-number : goal.overflow_sub-number
overflow_sub-number c = omega (arith, (told _ _ _ (Some _) (sym c.measure.ensures ∙ c.in-Some.is)).first)

pub offset_bounds-places-number : goal.offset_bounds-places-number
offset_bounds-places-number c = omega (arith, (told _ _ _ (Some _) (sym c.measure.ensures ∙ c.in-Some.is)).last)

pub bounds-places-number : goal.bounds-places-number
bounds-places-number c = let t = told _ _ _ (Some _) (sym c.measure.ensures ∙ c.in-Some.is) in omega (arith, t.first, t.last)

pub returns-in-Some : goal.returns-in-Some
returns-in-Some c = part_counted _ _ _ _ _ _ (sym c.measure.ensures ∙ c.in-Some.is) refl c.whole_part.ensures

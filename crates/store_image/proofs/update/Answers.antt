-- `store_image::update` meets its contract.
use Prim.Native.Nat.{◌+◌, ◌≤◌}
use mathlib.Core.Path.{sym, ◌∙◌}
use mathlib.Core.Bool.{false}
use native.Mathlib.Omega.{arith}
use lib.ListN.{length}
use Rattle.store_kinds.specs.Biometrics.{updatable, update}
use Rattle.store_image.specs.Image.{update_in}
use Rattle.store_kinds.proofs.Updating.{updatable_empty, update-length}
use Rattle.store_image.proofs.Splicing.{found_inside}
use Rattle.store_image.proofs.Lending.{lent_missing, lent_found}
use Rattle.store_image.proofs.update.Goals as goal
use Rattle.store_image.proofs.update.Goals.{In-Some}

-- the section that was found lies within the image
inside : (c : In-Some) → c.in-Some.start + c.in-Some.len ≤ length c.args.image.now
inside c = found_inside _ _ _ _ (sym c.find.ensures ∙ c.in-Some.is)

pub returns-in_default : goal.returns-in_default
unfolding update_in
returns-in_default c =
    let a = c.args in
    let d = a.«data».now in
    lent_missing _ _ (λ x. updatable x a.offset (length d)) (λ x. update x a.offset d) false (sym c.find.ensures ∙ c.in_default.is) (updatable_empty _ _)

pub overflow_add-start : goal.overflow_add-start
overflow_add-start c = omega (arith, inside (goal.at.overflow_add-start c).In-Some)

pub slice_bounds-update-end : goal.slice_bounds-update-end
slice_bounds-update-end c = omega (arith, inside (goal.at.slice_bounds-update-end c).In-Some)

pub returns : goal.returns
unfolding update_in
returns c =
    let a = c.args in
    let d = a.«data».now in
    let e = sym c.find.ensures ∙ c.in-Some.is in
    lent_found _ _ (λ x. updatable x a.offset (length d)) (λ x. update x a.offset d) _ _ _ _ e (λ x. update-length x a.offset d) c.update.ensures.0 c.update.ensures.1

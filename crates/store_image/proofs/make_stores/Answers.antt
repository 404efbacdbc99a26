-- `store_image::make_stores` meets its contract.
use Prim.Native.Nat.{◌+◌, ◌≤◌}
use mathlib.Core.Path.{sym, ap, ◌∙◌}
use native.Mathlib.Omega.{arith}
use lib.ListN.{length}
use Rattle.store_cut.specs.Stores.{stores, make_stores}
use Rattle.store_image.specs.Image.{stores_in, make_stores_in}
use Rattle.store_cut.proofs.Making.{make_stores-length}
use Rattle.store_cut.proofs.Cuts.{stores_empty}
use Rattle.store_image.proofs.Splicing.{found_inside}
use Rattle.store_image.proofs.Lending.{lent_missing, lent_found}
use Rattle.store_image.proofs.make_stores.Goals as goal
use Rattle.store_image.proofs.make_stores.Goals.{In-Some}

-- the section that was found lies within the image
inside : (c : In-Some) → c.in-Some.start + c.in-Some.len ≤ length c.args.image.now
inside c = found_inside _ _ _ _ (sym c.find.ensures ∙ c.in-Some.is)

pub returns-in_default : goal.returns-in_default
unfolding stores_in make_stores_in
returns-in_default c =
    let a = c.args in
    let d = a.«data».now in
    lent_missing _ _ (λ x. length (stores a.w x d)) (λ x. make_stores a.k a.w x d) 0 (sym c.find.ensures ∙ c.in_default.is) (ap length (stores_empty a.w d))

pub overflow_add-start : goal.overflow_add-start
overflow_add-start c = omega (arith, inside (goal.at.overflow_add-start c).In-Some)

pub slice_bounds-make_stores-end : goal.slice_bounds-make_stores-end
slice_bounds-make_stores-end c = omega (arith, inside (goal.at.slice_bounds-make_stores-end c).In-Some)

pub returns : goal.returns
unfolding stores_in make_stores_in
returns c =
    let a = c.args in
    let d = a.«data».now in
    let e = sym c.find.ensures ∙ c.in-Some.is in
    lent_found _ _ (λ x. length (stores a.w x d)) (λ x. make_stores a.k a.w x d) _ _ _ _ e (λ x. make_stores-length a.k a.w x d) c.make_stores.ensures.0 c.make_stores.ensures.1

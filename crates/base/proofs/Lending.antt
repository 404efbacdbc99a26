-- A part of a slice that is lent is one thing: its place and its length determine its bytes and where it stands in memory.
-- Read before: specs/Lent.antt. Exports `part_of_same`, and `whole_part_is` (which part it is, where it is all there).
use Prim.Native.Nat.{ℕ, ◌+◌, ◌≤◌}
use mathlib.Core.Path.{◌≡◌, sym, ◌∙◌, subst}
use mathlib.Core.Bool.{Bool, true}
use mathlib.Core.List.{List}
use lib.ListN.{length}
use borrow.Author.Tests.{le-leb}
use denote.Ref.{Bor}
use Rattle.base.specs.Choice.{if_else}
use Rattle.base.specs.Lent.{PartOf, whole_fits, WholePart}

pub part_of_same : (s : Bor (List ℕ)) (a n : ℕ) (r t : Bor (List ℕ)) → PartOf s a n r → PartOf s a n t → (r.now ≡ t.now) × (r.ref_ptr ≡ t.ref_ptr)
part_of_same s a n r t p q =
    (p.bytes ∙ sym q.bytes, λ i. ((p.block ∙ sym q.block) i, (p.offset ∙ sym q.offset) i))

module _ (s : Bor (List ℕ)) (a n : ℕ) (r : Bor (List ℕ)) where
  -- by whether all of it is there
  abbrev Whole : Bool → Type 0
  Whole b = PartOf s (if_else b a 0) (if_else b n 0) r

  fits : a + n ≤ length s.now → whole_fits s.now a n ≡ true
  unfolding whole_fits
  fits h = le-leb _ _ h

  pub whole_part_is : a + n ≤ length s.now → WholePart s a n r → PartOf s a n r
  whole_part_is h c = subst Whole (fits h) c

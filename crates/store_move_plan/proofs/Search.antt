-- A search for a kind in the image that a list lays out: it goes from row to row.
-- Read before: specs/Rooms.antt, Rows. Exports: `Fits`, `all_rows`, `whole_row`, `Looking`, `look_…` (the search), `same_place`, `same_length` (two
-- contents in the same rooms).
use Prim.Native.Nat.{ℕ, zero, suc, ◌+◌, ◌≤◌, ◌<◌}
use mathlib.Core.Path.{◌≡◌, refl, sym, ap, subst, ◌∙◌}
use mathlib.Core.List.{List}
use native.Mathlib.Omega.{arith}
use native.Mathlib.Numerals.{add-one}
use lib.ListN.{length}
use Rattle.store_image.specs.Image.{find}
use Rattle.store_image.proofs.Sections.{Seeking, seek_start, seek_none, seek_hit, seek_next}
use Rattle.store_move_plan.specs.Rooms.{rows, row_room, row_kind, sections, laid}
use Rattle.store_move_plan.proofs.Rows.{place, len_there, kind-there, place_next, end_inside}
use Rattle.std.specs.Prelude.{Some, None}

-- the content of each row fits in its room
abbrev pub Fits : (ℕ → List ℕ) → List ℕ → Type 0
Fits c list = (i : ℕ) → i < rows list → length (c (row_kind list i)) ≤ row_room list i

module _ (c : ℕ → List ℕ) (list : List ℕ) (fit : Fits c list) where
  pub all_rows : place c list (rows list) ≡ length (laid c list)
  unfolding laid
  all_rows = refl

  pub whole_row : (i : ℕ) → i < rows list → place c list i + 6 + row_room list i ≤ length (laid c list)
  whole_row i h = omega (arith, place_next c list i h (fit i h), end_inside c list i h (fit i h))

  -- a search for kind k that has come to row i
  abbrev pub Looking : ℕ → ℕ → Type 0
  Looking k i = Seeking (laid c list) k (place c list i)

  pub look_start : (k : ℕ) → Looking k 0
  unfolding sections
  look_start k = seek_start (laid c list) k

  module _ (k i : ℕ) (s : Looking k i) where
    pub look_none : i ≡ rows list → find (laid c list) k ≡ None
    look_none e =
        let l : place c list i ≡ length (laid c list) = ap (place c list) e ∙ all_rows in
        sym (seek_none (laid c list) k (place c list i) s (omega arith))

    module _ (h : i < rows list) where
      pub look_hit : row_kind list i ≡ k → find (laid c list) k ≡ Some (place c list i + 6, row_room list i)
      look_hit e =
          sym (seek_hit (laid c list) k (place c list i) s (row_room list i) (row_kind list i) (sym (len_there c list i h)) (sym (kind-there c list i h)) (whole_row i h) e)

      pub look_next : (row_kind list i ≡ k → ⊥) → Looking k (i + 1)
      look_next e =
          subst (Seeking (laid c list) k) (sym (place_next c list i h (fit i h)))
          (seek_next (laid c list) k (place c list i) s (row_room list i) (row_kind list i) (sym (len_there c list i h)) (sym (kind-there c list i h)) (whole_row i h) e)

-- two contents in the same rooms
module _ (list : List ℕ) (c d : ℕ → List ℕ) (fc : Fits c list) (fd : Fits d list) where
  -- each section stands at the same place of both, since its room and those before it are the row's
  pub same_place : (i : ℕ) → i ≤ rows list → place d list i ≡ place c list i
  unfolding sections
  same_place zero h = refl
  same_place (suc i) h =
      subst (λ (m : ℕ). place d list m ≡ place c list m) (add-one i)
      (place_next d list i (omega arith) (fd i (omega arith))
      ∙ ap (λ (p : ℕ). p + 6 + row_room list i) (same_place i (omega arith))
      ∙ sym (place_next c list i (omega arith) (fc i (omega arith))))

  pub same_length : length (laid d list) ≡ length (laid c list)
  same_length = sym (all_rows d list fd) ∙ same_place (rows list) (omega arith) ∙ all_rows c list fc

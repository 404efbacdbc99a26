-- The image that a list lays out with all its files empty: the rows answer for its sections.
-- Read before: specs/Rooms.antt, Rows, Search. Exports: `Looking`, `look_…`, `row_listed` (a kind that has a row), `row_order`, `row_room_lem`,
-- `row_rest` (one row), `Laying`, `lay_…`, `plan-…` (all rows).
use Prim.Native.Nat.{ℕ, zero, suc, ◌+◌, ◌-◌, ◌%◌, ◌≤◌, ◌<◌}
use mathlib.Core.Path.{◌≡◌, refl, sym, ap, subst, ◌∙◌}
use mathlib.Core.Bool.{true, false}
use mathlib.Core.List.{List, []}
use native.Mathlib.Omega.{arith}
use lib.ListN.{length}
use lib.Dec.{leb, eqb}
use borrow.Author.Tests.{leb-true, leb-false, eqb-true, eqb-false, eq-eqb, ne_eqb}
use Rattle.base.specs.Choice.{all_of}
use Rattle.base.specs.Bytes.{part}
use Rattle.base.proofs.Cases.{by_cases}
use Rattle.store_kinds.specs.Rules.{application_of, kind_ok}
use Rattle.store_image.specs.Image.{len_at, kind_at, is_at, has, present, section_ok, well_formed}
use Rattle.store_image.proofs.Sections.{Seeking, Walking, walk_start, walk_long, walk_end, walk_refused, walk_next, section_ok-order, section_ok-body, section_ok_rest}
use Rattle.store_move_plan.specs.Rooms.{rows, zeros, row_room, row_kind, filled, no_content, sections, laid, blank, lays, plan}
use Rattle.store_move_plan.proofs.Search as search
use Rattle.store_move_plan.proofs.Rows.{place, len_there, kind-there, room-there, place_next, end_inside}
use Rattle.std.specs.Prelude.{Some, None}

pub filled_empty : (n : ℕ) → filled n [] ≡ zeros n
unfolding filled
filled_empty n = let e : n - 0 ≡ n = omega arith in ap zeros e

pub none-fits : (list : List ℕ) → search.Fits no_content list
none-fits list i h = omega arith

module _ (list : List ℕ) where
  -- where the section of row i stands
  abbrev pub at : ℕ → ℕ
  at i = place no_content list i

  at-end : length (blank list) ≡ at (rows list)
  unfolding blank laid
  at-end = refl

  module _ (i : ℕ) (h : i < rows list) where
    pub blank_len : len_at (blank list) (at i) ≡ row_room list i
    unfolding blank
    blank_len = len_there no_content list i h

    pub blank-kind : kind_at (blank list) (at i) ≡ row_kind list i
    unfolding blank
    blank-kind = kind-there no_content list i h

    blank-body : part (blank list) (at i + 6) (row_room list i) ≡ zeros (row_room list i)
    unfolding blank
    blank-body = room-there no_content list i h (omega arith) ∙ filled_empty (row_room list i)

    pub blank_next : at (i + 1) ≡ at i + 6 + row_room list i
    blank_next = place_next no_content list i h (omega arith)

    pub blank-inside : at (i + 1) ≤ length (blank list)
    unfolding blank
    blank-inside = end_inside no_content list i h (omega arith)

  -- ---- looking for a kind

  abbrev pub Looking : ℕ → ℕ → Type 0
  Looking k i = Seeking (blank list) k (at i)

  pub look_start : (k : ℕ) → Looking k 0
  unfolding blank
  look_start k = search.look_start no_content list (none-fits list) k

  module _ (k i : ℕ) (s : Looking k i) where
    pub look_none : i ≡ rows list → false ≡ has (blank list) k
    unfolding has blank
    look_none e = sym (ap is_at (search.look_none no_content list (none-fits list) k i s e))

    -- as the code has the row's kind j
    module _ (h : i < rows list) (j : ℕ) (ej : j ≡ row_kind list i) where
      pub look_hit : j ≡ k → true ≡ has (blank list) k
      unfolding has blank
      look_hit e = sym (ap is_at (search.look_hit no_content list (none-fits list) k i s h (sym ej ∙ e)))

      pub look_next : (j ≡ k → ⊥) → Looking k (i + 1)
      unfolding blank
      look_next e = search.look_next no_content list (none-fits list) k i s h (λ q. e (ej ∙ q))

  -- a kind that has a row is there
  pub row_listed : (k i : ℕ) → i < rows list → row_kind list i ≡ k → has (blank list) k ≡ true
  row_listed k i h e = go i 0 (omega arith) (look_start k)
    where
      go : (d j : ℕ) → j + d ≡ i → Looking k j → has (blank list) k ≡ true
      go zero j q s = let r : j ≡ i = omega arith in sym (look_hit k j s (omega arith) (row_kind list j) refl (ap (row_kind list) r ∙ e))
      go (suc d) j q s =
          by_cases (eqb (row_kind list j) k)
          (λ y. sym (look_hit k j s (omega arith) (row_kind list j) refl (eqb-true _ _ y)))
          (λ n. go d (j + 1) (omega arith) (look_next k j s (omega arith) (row_kind list j) refl (eqb-false _ _ n)))

  -- ---- one row behind another of kind `last`

  module _ (i : ℕ) (h : i < rows list) (last : ℕ) where
    -- as the code has its kind j and the length l of its room
    module _ (j : ℕ) (ej : j ≡ row_kind list i) where
      pub row_order : j ≤ last → false ≡ section_ok (blank list) (at i) last
      row_order e = sym (section_ok-order (blank list) (at i) last (omega (arith, blank-kind i h)))

      module _ (l : ℕ) (el : l ≡ row_room list i) where
        empty : zeros l ≡ part (blank list) (at i + 6) l
        empty = rw el (sym (blank-body i h))

        pub row_room_lem : kind_ok j (zeros l) ≡ false → false ≡ section_ok (blank list) (at i) last
        row_room_lem e =
            sym (section_ok-body (blank list) (at i) last l j (el ∙ sym (blank_len i h)) (ej ∙ sym (blank-kind i h)) (zeros l) empty e)

        pub row_rest : last < j → kind_ok j (zeros l) ≡ true → section_ok (blank list) (at i) last ≡ present (blank list) (application_of j)
        row_rest o e =
            section_ok_rest (blank list) (at i) last l j (el ∙ sym (blank_len i h)) (ej ∙ sym (blank-kind i h)) (zeros l) empty
            (omega (arith, blank_next i h, blank-inside i h)) o e

  -- ---- all of them

  -- the sections passed are right, if the image is not too long
  abbrev pub Laying : ℕ → ℕ → Type 0
  Laying i last = length (blank list) ≤ 262144 → Walking (blank list) (at i) last

  pub lay_start : Laying 0 0
  unfolding sections
  lay_start h = walk_start (blank list) h

  plan-refused : well_formed (blank list) ≡ false → None ≡ plan list
  unfolding plan lays all_of
  plan-refused e = by_cases (eqb (length list % 6) 0) (λ y. simp (y, e)) (λ n. simp n)

  pub plan_torn : (length list % 6 ≡ 0 → ⊥) → None ≡ plan list
  unfolding plan lays all_of
  plan_torn h = simp (ne_eqb _ _ h)

  -- as the code has the place p of row i and the length l of its room
  module _ (i : ℕ) (h : i < rows list) (p l : ℕ) (ep : p ≡ at i) (el : l ≡ row_room list i) where
    pub at_next : p + 6 + l ≡ at (i + 1)
    at_next = omega (arith, blank_next i h)

    pub plan-long : 262144 < p + 6 + l → None ≡ plan list
    plan-long g = plan-refused (sym (walk_long (blank list) (omega (arith, at_next, blank-inside i h))))

  module _ (i last : ℕ) (w : Laying i last) where
    pub plan-refused_row : i < rows list → section_ok (blank list) (at i) last ≡ false → None ≡ plan list
    plan-refused_row h e =
        plan-refused (by_cases (leb (length (blank list)) 262144)
        (λ y. sym (walk_refused (blank list) (at i) last (w (leb-true _ _ y)) (omega (arith, blank_next i h, blank-inside i h)) e))
        (λ n. sym (walk_long (blank list) (leb-false _ _ n))))

    pub lay_next : (h : i < rows list) (j : ℕ) → j ≡ row_kind list i → section_ok (blank list) (at i) last ≡ true → Laying (i + 1) j
    lay_next h j ej e s =
        subst (λ (p : ℕ). Walking (blank list) p j) (sym (blank_next i h))
        (walk_next (blank list) (at i) last (w s) (omega (arith, blank_next i h, blank-inside i h)) (row_room list i) j (sym (blank_len i h)) (ej ∙ sym (blank-kind i h)) e)

    pub plan-total : (p : ℕ) → p ≡ at i → i ≡ rows list → p ≤ 262144 → length list % 6 ≡ 0 → Some p ≡ plan list
    unfolding plan lays all_of
    plan-total p ep e s d =
        let l : length (blank list) ≡ p = at-end ∙ ap at (sym e) ∙ sym ep in
        let o : well_formed (blank list) ≡ true = sym (walk_end (blank list) (at i) last (w (omega arith)) (omega arith)) in
        simp (eq-eqb _ _ d, o) (ap Some (sym l))

-- Two images that one list lays out, with different content in the same rooms: each kind is found in the same room of both, and one
-- image is right where the other is.
-- Read before: store_move_plan's specs/Rooms.antt. Exports: `has_same`, `filled-body`, `laid-well_formed`.
use Prim.Native.Nat.{ℕ, zero, suc, ◌+◌, ◌≤◌, ◌<◌}
use mathlib.Core.Path.{◌≡◌, sym, ap, ap₂, subst, ◌∙◌}
use mathlib.Core.Bool.{true}
use mathlib.Core.List.{List}
use mathlib.Core.Logic.{⊎_elim}
use native.Mathlib.Omega.{arith}
use native.Mathlib.Nat.{eq-or-lt_of_le}
use lib.ListN.{length}
use lib.Dec.{eqb}
use borrow.Author.Tests.{lt-leb, eqb-true, eqb-false}
use Rattle.base.proofs.Cases.{false-true, by_cases, all_of_facts, all_of_accepted}
use Rattle.store_kinds.specs.Rules.{application_of, kind_ok}
use Rattle.store_image.specs.Image.{find, has, section_ok, sections_ok, well_formed, body}
use Rattle.store_image.proofs.Sections.{section_ok_facts, section_ok_rest, sections_ok_end}
use Rattle.store_image.proofs.Presence.{present-same}
use Rattle.store_image.proofs.Splicing.{open_sections, sections_of}
use Rattle.store_image.proofs.Files.{body-found, has-found, has_missing}
use Rattle.store_move_plan.specs.Rooms.{rows, row_room, row_kind, filled, sections, laid}
use Rattle.store_move_plan.proofs.Rows.{place, len_there, kind-there, room-there, body-there, end_there}
use Rattle.store_move_plan.proofs.Search.{Fits, all_rows, whole_row, same_place, same_length, Looking, look_start, look_none, look_hit, look_next}
use Rattle.std.specs.Prelude.{Some, None}

module _ (list : List ℕ) (c d : ℕ → List ℕ) (fc : Fits c list) (fd : Fits d list) where
  -- kind k is in neither, or in the same row of both
  data Met (k : ℕ) : Type 0 where
    nowhere : find (laid c list) k ≡ None → find (laid d list) k ≡ None → Met k
    in_row : (i : ℕ) → i < rows list → row_kind list i ≡ k
        → find (laid c list) k ≡ Some (place c list i + 6, row_room list i)
        → find (laid d list) k ≡ Some (place d list i + 6, row_room list i)
        → Met k

  -- both searches go down the rows side by side
  meet : (k : ℕ) → Met k
  meet k = go (rows list) 0 (omega arith) (look_start c list fc k) (look_start d list fd k)
    where
      go : (r i : ℕ) → i + r ≡ rows list → Looking c list fc k i → Looking d list fd k i → Met k
      go zero i e s t = nowhere (look_none c list fc k i s (omega arith)) (look_none d list fd k i t (omega arith))
      go (suc r) i e s t =
          let h : i < rows list = omega arith in
          by_cases (eqb (row_kind list i) k)
          (λ y. let q = eqb-true (row_kind list i) k y in in_row i h q (look_hit c list fc k i s h q) (look_hit d list fd k i t h q))
          (λ n. let q = eqb-false (row_kind list i) k n in go r (i + 1) (omega arith) (look_next c list fc k i s h q) (look_next d list fd k i t h q))

  pub has_same : (k : ℕ) → has (laid d list) k ≡ has (laid c list) k
  has_same k = go (meet k)
    where
      go : Met k → has (laid d list) k ≡ has (laid c list) k
      go (nowhere e f) = has_missing (laid d list) k f ∙ sym (has_missing (laid c list) k e)
      go (in_row i h q e f) = has-found (laid d list) k _ _ f ∙ sym (has-found (laid c list) k _ _ e)

  -- the file of kind k is its content with zeros behind it, since the row that is found has that kind
  pub filled-body : (k : ℕ) → has (laid d list) k ≡ true → (n : ℕ) × (length (d k) ≤ n) × (body (laid d list) k ≡ filled n (d k))
  filled-body k y = go (meet k)
    where
      go : Met k → (n : ℕ) × (length (d k) ≤ n) × (body (laid d list) k ≡ filled n (d k))
      go (nowhere e f) = false-true (sym (has_missing (laid d list) k f) ∙ y)
      go (in_row i h q e f) = (
        row_room list i,
        subst (λ (j : ℕ). length (d j) ≤ row_room list i) q (fd i h),
        body-found (laid d list) k _ _ f ∙ room-there d list i h (fd i h) ∙ ap (λ (j : ℕ). filled (row_room list i) (d j)) q,
      )

  -- where in each row the second content is right if the first is, so are the sections: heads, order and applications are the same
  module _ (right : (i : ℕ) → i < rows list → kind_ok (row_kind list i) (filled (row_room list i) (c (row_kind list i))) ≡ true
      → kind_ok (row_kind list i) (filled (row_room list i) (d (row_kind list i))) ≡ true) where
    section-too : (i last : ℕ) → i < rows list → section_ok (laid c list) (place c list i) last ≡ true → section_ok (laid d list) (place d list i) last ≡ true
    section-too i last h e =
        let g = section_ok_facts (laid c list) (place c list i) last e in
        let k = kind-there c list i h in
        let was : kind_ok (row_kind list i) (filled (row_room list i) (c (row_kind list i))) ≡ true = ap₂ kind_ok (sym k) (sym (body-there c list i h (fc i h))) ∙ g.right in
        section_ok_rest (laid d list) (place d list i) last (row_room list i) (row_kind list i) (sym (len_there d list i h)) (sym (kind-there d list i h))
        (filled (row_room list i) (d (row_kind list i))) (sym (room-there d list i h (fd i h))) (whole_row d list fd i h) (omega (arith, g.after)) (right i h was)
        ∙ present-same (laid c list) (laid d list) has_same (application_of (row_kind list i))
        ∙ rw k at g.beside

    -- those from row i on, with the same bound, since both images are as long
    sections-too : (f i last : ℕ) → i ≤ rows list → sections_ok f (laid c list) (place c list i) last ≡ true → sections_ok f (laid d list) (place d list i) last ≡ true
    unfolding sections_ok
    sections-too zero i last h o = let l = same_length list c d fc fd in let p = same_place list c d fc fd i h in rw (l, p) o
    sections-too (suc f) i last h o =
        ⊎_elim
        (λ e. sections_ok_end (suc f) (laid d list) (place d list i) last (let a = ap (place d list) e ∙ all_rows d list fd in omega arith))
        (λ g. let q = open_sections f (laid c list) (place c list i) last (omega (arith, whole_row c list fc i g)) o in
        let r : sections_ok f (laid c list) (place c list (i + 1)) (row_kind list i) ≡ true = rw (end_there c list i g (fc i g), kind-there c list i g) at q.1 in
        let before : place d list i < length (laid d list) = omega (arith, whole_row d list fd i g) in
        rw (lt-leb (length (laid d list)) (place d list i) before, section-too i last g q.0, end_there d list i g (fd i g), kind-there d list i g)
        (sections-too f (i + 1) (row_kind list i) (omega arith) r))
        (eq-or-lt_of_le {n = i} {m = rows list} h)

    pub laid-well_formed : well_formed (laid c list) ≡ true → well_formed (laid d list) ≡ true
    unfolding well_formed sections
    laid-well_formed o =
        let t = sections-too (length (laid c list)) 0 0 (omega arith) (sections_of (laid c list) o) in
        rw (same_length list c d fc fd) (all_of_accepted _ ((all_of_facts _ o).0, (t, tt)))

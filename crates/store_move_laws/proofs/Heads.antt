-- The rows of `heads old` are the sections of the old image: its own bodies in these rooms are the old image again.
-- Read before: specs/Same.antt. Exports: `full`, `laid-heads`, `own-…` (the old image by its own heads).
use Prim.Native.Nat.{ℕ, zero, suc, ◌+◌, ◌-◌, ◌*◌, ◌%◌, ◌≤◌, ◌<◌}
use mathlib.Core.Path.{◌≡◌, refl, sym, ap, ap₂, ◌∙◌}
use mathlib.Core.Bool.{true}
use mathlib.Core.List.{List, [], ◌++◌, append-nil, append_assoc}
use native.Mathlib.Omega.{arith}
use native.Mathlib.Nat.{add-zero}
use lib.ListN.{length, take, drop, length-append, take-append-drop, drop_of_length-le}
use lib.Seq.{take_at, drop_at, drop-drop, take-add, take_all}
use lib.Dec.{leb}
use borrow.Author.Tests.{lt-leb, le-leb, leb-true, leb-false}
use Rattle.base.specs.Bytes.{part}
use Rattle.base.proofs.Cases.{by_cases}
use Rattle.base.proofs.Parts.{length_part}
use Rattle.store_records.specs.Little.{le16, le32}
use Rattle.store_records.proofs.Numbers.{le16-part, le32-part}
use Rattle.store_image.specs.Image.{len_at, kind_at, end_at, find, has, well_formed, body}
use Rattle.store_image.proofs.Files.{body-found, has-found, body-length}
use Rattle.store_move_plan.specs.Rooms.{rows, row_room, row_kind, zeros, filled, section, sections, laid}
use Rattle.store_move_plan.proofs.Rows.{row_inside, place, head-there, end_there}
use Rattle.store_move_plan.proofs.Search.{Fits, all_rows, whole_row}
use Rattle.store_move_laws.specs.Same.{heads_from, heads}
use Rattle.store_move.specs.Loops.{Standing}
use Rattle.store_move.proofs.Walk.{stand_start, Here, here}
use Rattle.std.specs.Prelude.{Some}

-- ---- heads

-- the same six bytes say the same length and kind
module _ (xs ys : List ℕ) (p q : ℕ) (e : part xs p 6 ≡ part ys q 6) where
  same_len : len_at xs p ≡ len_at ys q
  same_len =
      ap (le32 xs) (sym (add-zero p)) ∙ sym (le32-part xs p 6 0 (omega arith)) ∙ ap (λ (l : List ℕ). le32 l 0) e ∙ le32-part ys q 6 0 (omega arith) ∙ ap (le32 ys) (add-zero q)

  same_kind : kind_at xs p ≡ kind_at ys q
  same_kind = sym (le16-part xs p 6 4 (omega arith)) ∙ ap (λ (l : List ℕ). le16 l 4) e ∙ le16-part ys q 6 4 (omega arith)

-- at the end there is no head left, and before it one more
heads_end : (f : ℕ) (old : List ℕ) (p : ℕ) → length old ≤ p → heads_from f old p ≡ []
unfolding heads_from
heads_end zero old p h = refl
heads_end (suc f) old p h = simp (le-leb _ _ h)

heads-step : (f : ℕ) (old : List ℕ) (p : ℕ) → length old ≤ p + f → p < length old
    → (g : ℕ) × (length old ≤ end_at old p + g) × (heads_from f old p ≡ part old p 6 ++ heads_from g old (end_at old p))
unfolding heads_from
heads-step zero old p e h = absurd (omega arith)
heads-step (suc f) old p e h = (f, omega arith, simp (lt-leb _ _ h))

-- a room that is full has no zeros
pub full : (n : ℕ) (xs : List ℕ) → length xs ≡ n → filled n xs ≡ xs
unfolding filled
full n xs e = let z : n - length xs ≡ 0 = omega arith in ap (λ (m : ℕ). xs ++ zeros m) z ∙ append-nil xs

-- ---- the heads of an image that a list lays out are the list

module _ (c : ℕ → List ℕ) (list : List ℕ) (fit : Fits c list) where
  row-and-rest : (i : ℕ) → part list (6 * i) 6 ++ drop (6 * (i + 1)) list ≡ drop (6 * i) list
  row-and-rest i =
      let e : 6 * i + 6 ≡ 6 * (i + 1) = omega arith in
      ap (λ (x : List ℕ). part list (6 * i) 6 ++ x) (ap (λ (n : ℕ). drop n list) (sym e) ∙ sym (drop-drop 6 (6 * i) list))
      ∙ take-append-drop 6 (drop (6 * i) list)

  pub laid-heads : length list % 6 ≡ 0 → heads (laid c list) ≡ list
  unfolding heads sections rows
  laid-heads even = go (rows list) 0 (length (laid c list)) (omega arith) (omega arith)
    where
      go : (r i f : ℕ) → i + r ≡ rows list → length (laid c list) ≤ place c list i + f → heads_from f (laid c list) (place c list i) ≡ drop (6 * i) list
      go zero i f e n =
          let l : place c list i ≡ length (laid c list) = ap (place c list) (let q : i ≡ rows list = omega arith in q) ∙ all_rows c list fit in
          heads_end f (laid c list) (place c list i) (omega arith) ∙ sym (drop_of_length-le list {i = 6 * i} (omega arith))
      go (suc r) i f e n =
          let h : i < rows list = omega arith in
          let s = heads-step f (laid c list) (place c list i) n (omega (arith, whole_row c list fit i h)) in
          let next = end_there c list i h (fit i h) in
          s.2
          ∙ ap₂ (λ (x y : List ℕ). x ++ y) (head-there c list i h) (ap (heads_from s.0 (laid c list)) next ∙ go r (i + 1) s.0 (omega arith) (omega (arith, s.1, next)))
          ∙ row-and-rest i

module _ (old : List ℕ) (well : well_formed old ≡ true) where
  -- ---- from row to row

  -- row i is the section at `at`: the heads before it make i rows, those from it on are the rest of the list, and the sections that the
  -- i rows lay out are the image up to there
  record Reached (i : ℕ) : Type 0 where
    at : ℕ
    stand : Standing old at
    fuel : ℕ
    enough : length old ≤ at + fuel
    before : List ℕ
    long : length before ≡ 6 * i
    rest : heads old ≡ before ++ heads_from fuel old at
    done : sections (body old) (heads old) i ≡ take at old

  start : Reached 0
  start = unfold heads sections in (record {
    at = 0;
    stand = stand_start old well;
    fuel = length old;
    enough = omega arith;
    before = [];
    long = refl;
    rest = refl;
    done = refl;
  })

  module _ (i : ℕ) (r : Reached i) where
    -- how much of the list is left says whether a section is left
    all-long : length (heads old) ≡ 6 * i + length (heads_from r.fuel old r.at)
    all-long = ap length r.rest ∙ length-append r.before (heads_from r.fuel old r.at) ∙ ap (λ (n : ℕ). n + length (heads_from r.fuel old r.at)) r.long

    past : length old ≤ r.at → length (heads old) ≡ 6 * i
    past h = all-long ∙ (let e = ap length (heads_end r.fuel old r.at h) in omega arith)

    module _ (h : r.at < length old) where
      it : Here old r.at
      it = here old r.at r.stand h

      step : (g : ℕ) × (length old ≤ end_at old r.at + g) × (heads_from r.fuel old r.at ≡ part old r.at 6 ++ heads_from g old (end_at old r.at))
      step = heads-step r.fuel old r.at r.enough h

      head-long : length (part old r.at 6) ≡ 6
      head-long = length_part old r.at 6 (omega (arith, it.whole))

      -- the row has the section's head, so it has its length and kind, and the section is the one of that kind
      row : part (heads old) (6 * i) 6 ≡ part old r.at 6
      row =
          let l : List ℕ = heads_from step.0 old (end_at old r.at) in
          ap (λ (x : List ℕ). part x (6 * i) 6) (r.rest ∙ ap (λ (x : List ℕ). r.before ++ x) step.2)
          ∙ ap (take 6) (drop_at r.before (part old r.at 6 ++ l) (6 * i) r.long)
          ∙ take_at (part old r.at 6) l 6 head-long

      row_room_lem : row_room (heads old) i ≡ len_at old r.at
      row_room_lem = same_len (heads old) old (6 * i) r.at row

      row-found : find old (row_kind (heads old) i) ≡ Some (r.at + 6, row_room (heads old) i)
      row-found = rw (same_kind (heads old) old (6 * i) r.at row, row_room_lem) it.found

      -- its body fills its room
      row-full : filled (row_room (heads old) i) (body old (row_kind (heads old) i)) ≡ part old (r.at + 6) (len_at old r.at)
      row-full =
          full (row_room (heads old) i) (body old (row_kind (heads old) i)) (body-length old (row_kind (heads old) i) _ _ row-found)
          ∙ body-found old (row_kind (heads old) i) _ _ row-found
          ∙ ap (part old (r.at + 6)) row_room_lem

      -- so row and section lie behind what was passed, in the list and in the image
      next : Reached (suc i)
      next = record {
        at = end_at old r.at;
        stand = it.next;
        fuel = step.0;
        enough = step.1;
        before = r.before ++ part old r.at 6;
        long = length-append r.before (part old r.at 6) ∙ ap₂ (λ (x y : ℕ). x + y) r.long head-long ∙ omega arith;
        rest = r.rest ∙ ap (λ (x : List ℕ). r.before ++ x) step.2 ∙ sym (append_assoc r.before (part old r.at 6) (heads_from step.0 old (end_at old r.at)));
        done = unfold sections section in
            (ap₂ (λ (x y : List ℕ). x ++ y) r.done (ap₂ (λ (x y : List ℕ). x ++ y) row row-full)
            ∙ sym (append_assoc (take r.at old) (part old r.at 6) (part old (r.at + 6) (len_at old r.at)))
            ∙ ap (λ (x : List ℕ). x ++ part old (r.at + 6) (len_at old r.at)) (sym (take-add r.at 6 old))
            ∙ sym (take-add (r.at + 6) (len_at old r.at) old));
      }

    -- rows and sections end together
    before-end : i < rows (heads old) → r.at < length old
    before-end h =
        by_cases (leb (length old) r.at)
        (λ y. absurd (omega (arith, past (leb-true _ _ y), row_inside (heads old) i h)))
        (λ n. leb-false _ _ n)

    at-end : i ≡ rows (heads old) → length old ≤ r.at
    unfolding rows
    at-end e =
        by_cases (leb (length old) r.at)
        (λ y. leb-true _ _ y)
        (λ n. let h = leb-false (length old) r.at n in
        let l = ap length (step h).2 ∙ length-append (part old r.at 6) (heads_from (step h).0 old (end_at old r.at)) in
        absurd (omega (arith, all-long, head-long h)))

  reach : (i : ℕ) → i ≤ rows (heads old) → Reached i
  reach zero h = start
  reach (suc i) h = let r = reach i (omega arith) in next i r (before-end i r h)

  -- ---- all rows

  last : Reached (rows (heads old))
  last = reach (rows (heads old)) (omega arith)

  -- no row is torn, and the bodies themselves in their rooms are the old image
  pub own_rows : length (heads old) ≡ 6 * rows (heads old)
  own_rows = past (rows (heads old)) last (at-end (rows (heads old)) last refl)

  pub own_laid : laid (body old) (heads old) ≡ old
  unfolding laid
  own_laid = last.done ∙ take_all last.at old (at-end (rows (heads old)) last refl)

  -- each row has a file of the old image, and that file's length
  module _ (i : ℕ) (h : i < rows (heads old)) where
    this : Reached i
    this = reach i (omega arith)

    found : find old (row_kind (heads old) i) ≡ Some (this.at + 6, row_room (heads old) i)
    found = row-found i this (before-end i this h)

    pub own_has : has old (row_kind (heads old) i) ≡ true
    own_has = has-found old (row_kind (heads old) i) _ _ found

    pub own_length : length (body old (row_kind (heads old) i)) ≡ row_room (heads old) i
    own_length = body-length old (row_kind (heads old) i) _ _ found

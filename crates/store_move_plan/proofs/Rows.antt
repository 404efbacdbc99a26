-- The rows of a list: where the section of each stands in the image that the list lays out, and what stands there.
-- Read before: specs/Rooms.antt. Exports: `row_inside`, `filled-length`, `place`, `place_next`, `end_inside`, and `…-there` (head, length, kind,
-- room, body and end of a row's section).
use Prim.Native.Nat.{ℕ, zero, suc, ◌+◌, ◌-◌, ◌*◌, ◌≤◌, ◌<◌}
use mathlib.Core.Path.{◌≡◌, refl, sym, ap, ap₂, ◌∙◌}
use mathlib.Core.List.{List, [], ◌++◌, append-nil, append_assoc}
use mathlib.Core.Logic.{⊎_elim}
use native.Mathlib.Omega.{arith}
use native.Mathlib.Numerals.{add-one}
use native.Mathlib.Nat.{eq-or-lt_of_le}
use lib.ListN.{length, get_or, take, length-append, length-replicate, get_or-append}
use lib.Seq.{get_or-append-add, take_at, drop_at}
use Rattle.base.specs.Bytes.{part}
use Rattle.base.proofs.Parts.{get_d_part, length_part}
use Rattle.store_records.specs.Little.{le16, le32}
use Rattle.store_image.specs.Image.{len_at, kind_at, body_at, end_at}
use Rattle.store_move_plan.specs.Rooms.{rows, zeros, row_room, row_kind, filled, section, sections, laid}

-- a row is whole
pub row_inside : (list : List ℕ) (i : ℕ) → i < rows list → 6 * i + 6 ≤ length list
unfolding rows
row_inside list i h = omega arith

pub filled-length : (n : ℕ) (xs : List ℕ) → length xs ≤ n → length (filled n xs) ≡ n
unfolding filled
filled-length n xs h = length-append xs (zeros (n - length xs)) ∙ (let l : length (zeros (n - length xs)) ≡ n - length xs = length-replicate (n - length xs) 0 in omega arith)

-- numbers that stand at p in one list and at q in another
module _ (xs ys : List ℕ) (p q m : ℕ) (same : (j : ℕ) → j < m → get_or xs (p + j) 0 ≡ get_or ys (q + j) 0) where
  le16-same : (j : ℕ) → j + 2 ≤ m → le16 xs (p + j) ≡ le16 ys (q + j)
  unfolding le16
  le16-same j h =
      ap₂ (λ (x y : ℕ). x + 256 * y)
      (same j (omega arith))
      (ap (λ (k : ℕ). get_or xs k 0) (omega arith) ∙ same (j + 1) (omega arith) ∙ ap (λ (k : ℕ). get_or ys k 0) (omega arith))

  le32-same : (j : ℕ) → j + 4 ≤ m → le32 xs (p + j) ≡ le32 ys (q + j)
  unfolding le32
  le32-same j h =
      ap₂ (λ (x y : ℕ). x + 65536 * y)
      (le16-same j (omega arith))
      (ap (le16 xs) (omega arith) ∙ le16-same (j + 2) (omega arith) ∙ ap (le16 ys) (omega arith))

module _ (c : ℕ → List ℕ) (list : List ℕ) where
  -- the sections of the first n rows begin with those of the first i
  pub record Split (n i : ℕ) : Type 0 where
    pub rest : List ℕ
    pub whole : sections c list n ≡ sections c list i ++ rest

  pub split : (n i : ℕ) → i ≤ n → Split n i
  unfolding sections
  split zero i h = let e : i ≡ 0 = omega arith in rw e (record { rest = []; whole = refl })
  split (suc n) i h =
      ⊎_elim
      (λ e. rw e (record { rest = []; whole = sym (append-nil (sections c list (suc n))) }))
      (λ g. let s = split n i (omega arith) in record {
        rest = s.rest ++ section c list n;
        whole = ap (λ (l : List ℕ). l ++ section c list n) s.whole ∙ append_assoc (sections c list i) s.rest (section c list n);
      })
      (eq-or-lt_of_le {n = i} {m = suc n} h)

  -- where the section of row i stands
  abbrev pub place : ℕ → ℕ
  place i = length (sections c list i)

  module _ (i : ℕ) (h : i < rows list) where
    -- what stands behind it
    tail : List ℕ
    tail = (split (rows list) (i + 1) (omega arith)).rest

    there : laid c list ≡ sections c list i ++ (section c list i ++ tail)
    unfolding laid sections tail
    there =
        (split (rows list) (i + 1) (omega arith)).whole
        ∙ ap (λ (n : ℕ). sections c list n ++ tail) (add-one i)
        ∙ append_assoc (sections c list i) (section c list i) tail

    head-length : length (part list (6 * i) 6) ≡ 6
    head-length = length_part list (6 * i) 6 (row_inside list i h)

    -- its head is the row
    pub head-there : part (laid c list) (place i) 6 ≡ part list (6 * i) 6
    unfolding section
    head-there =
        let h : List ℕ = part list (6 * i) 6 in
        let b : List ℕ = filled (row_room list i) (c (row_kind list i)) in
        ap (λ (x : List ℕ). part x (place i) 6) (there ∙ ap (λ (x : List ℕ). sections c list i ++ x) (append_assoc h b tail))
        ∙ ap (take 6) (drop_at (sections c list i) (h ++ (b ++ tail)) (place i) refl)
        ∙ take_at h (b ++ tail) 6 head-length

    row-byte : (j : ℕ) → j < 6 → get_or (laid c list) (place i + j) 0 ≡ get_or list (6 * i + j) 0
    unfolding section
    row-byte j k =
        let b : List ℕ = filled (row_room list i) (c (row_kind list i)) in
        let l = head-length in
        ap (λ (x : List ℕ). get_or x (place i + j) 0) there
        ∙ get_or-append-add (sections c list i) (section c list i ++ tail) j 0
        ∙ ap (λ (x : List ℕ). get_or x j 0) (append_assoc (part list (6 * i) 6) b tail)
        ∙ get_or-append (part list (6 * i) 6) (b ++ tail) 0 j (omega arith)
        ∙ get_d_part list (6 * i) 6 j k

    -- its length and its kind are the row's
    pub len_there : len_at (laid c list) (place i) ≡ row_room list i
    len_there =
        ap (le32 (laid c list)) (omega arith) ∙ le32-same (laid c list) list (place i) (6 * i) 6 row-byte 0 (omega arith) ∙ ap (le32 list) (omega arith)

    pub kind-there : kind_at (laid c list) (place i) ≡ row_kind list i
    kind-there = le16-same (laid c list) list (place i) (6 * i) 6 row-byte 4 (omega arith)

    -- where the content fits in the room
    module _ (f : length (c (row_kind list i)) ≤ row_room list i) where
      section-length : length (section c list i) ≡ 6 + row_room list i
      unfolding section
      section-length =
          length-append (part list (6 * i) 6) (filled (row_room list i) (c (row_kind list i)))
          ∙ ap₂ (λ (x y : ℕ). x + y) head-length (filled-length (row_room list i) (c (row_kind list i)) f)

      pub place_next : place (i + 1) ≡ place i + 6 + row_room list i
      unfolding sections
      place_next =
          ap place (add-one i) ∙ length-append (sections c list i) (section c list i) ∙ (let l = section-length in omega arith)

      pub room-there : part (laid c list) (place i + 6) (row_room list i) ≡ filled (row_room list i) (c (row_kind list i))
      unfolding section
      room-there =
          let b : List ℕ = filled (row_room list i) (c (row_kind list i)) in
          let l = head-length in
          let a : List ℕ = sections c list i ++ part list (6 * i) 6 in
          let e : laid c list ≡ a ++ (b ++ tail) =
          there
          ∙ ap (λ (x : List ℕ). sections c list i ++ x) (append_assoc (part list (6 * i) 6) b tail)
          ∙ sym (append_assoc (sections c list i) (part list (6 * i) 6) (b ++ tail)) in
          ap (λ (x : List ℕ). part x (place i + 6) (row_room list i)) e
          ∙ ap (take (row_room list i)) (drop_at a (b ++ tail) (place i + 6) (length-append (sections c list i) (part list (6 * i) 6) ∙ omega arith))
          ∙ take_at b tail (row_room list i) (filled-length (row_room list i) (c (row_kind list i)) f)

      pub body-there : body_at (laid c list) (place i) ≡ filled (row_room list i) (c (row_kind list i))
      body-there = ap (part (laid c list) (place i + 6)) len_there ∙ room-there

      pub end_there : end_at (laid c list) (place i) ≡ place (i + 1)
      end_there = ap (λ (n : ℕ). place i + 6 + n) len_there ∙ sym place_next

      pub end_inside : place (i + 1) ≤ length (laid c list)
      end_inside =
          let s = split (rows list) (i + 1) (omega arith) in
          let e : length (laid c list) ≡ length (sections c list (i + 1) ++ s.rest) = unfold laid in ap length s.whole in
          omega (arith, e, length-append (sections c list (i + 1)) s.rest)

-- The shape of a command by the tests that the code makes. Read before: specs/Shape.antt. Exports one law for each answer: `shape-case…` for
-- ISO's seven cases, `shape_…_refused` for what has no shape. `shape_complete` (Laws.antt) says the seven in one.
use Prim.Native.Nat.{ℕ, ◌+◌, ◌<◌, ◌≤◌}
use mathlib.Core.Path.{◌≡◌, refl, sym, ◌∙◌}
use mathlib.Core.Bool.{◌&&◌, and-false}
use mathlib.Core.List.{List}
use native.Mathlib.Omega.{arith}
use lib.ListN.{length, get_or}
use lib.Dec.{ltb, eqb}
use borrow.Author.Tests.{lt-ltb, le-leb, lt-leb, eq-eqb, ne_eqb}
use Rattle.base.specs.Choice.{if_else}
use Rattle.base.proofs.Cases.{if_else_ind}
use Rattle.machine_apdu.specs.Shape.{be16_at, or_most, framed, first_shape, shapes, up_to, shape_of}
use Rattle.std.specs.Prelude.{Option, None}
use Rattle.machine_apdu.specs.declared.Frame.{Frame}

module _ (c : List ℕ) where
  pub shape_under_four_refused : length c < 4 → None ≡ shape_of c
  unfolding shape_of shapes first_shape
  shape_under_four_refused h =
      simp (
        ne_eqb (length c) 4 (omega arith),
        ne_eqb (length c) 5 (omega arith),
        ne_eqb (length c) 7 (omega arith),
        ne_eqb (length c) (5 + get_or c 4 0) (omega arith),
        ne_eqb (length c) (6 + get_or c 4 0) (omega arith),
        ne_eqb (length c) (7 + be16_at c 5) (omega arith),
        ne_eqb (length c) (9 + be16_at c 5) (omega arith),
        and-false,
      )

  pub shape_case1 : length c ≡ 4 → framed c 4 0 0 0 ≡ shape_of c
  unfolding shape_of shapes first_shape framed
  shape_case1 h = simp h

  pub shape_case2_short : (b ne : ℕ) → b ≡ get_or c 4 0 → ne ≡ or_most b 256 → length c ≡ 5 → framed c 4 0 1 ne ≡ shape_of c
  unfolding shape_of shapes first_shape framed
  shape_case2_short b ne eb en h = simp (h, en, eb)

  -- ---- a short Lc

  module _ (b : ℕ) (eb : b ≡ get_or c 4 0) (some : 0 < b) (small : b ≤ 1024) (long : 5 < length c) where
    with-short : up_to 1024 (if_else (eqb (length c) (5 + b)) (framed c 5 b 0 0)
        (if_else (eqb (length c) (6 + b)) (framed c 5 b 1 (or_most (get_or c (5 + b) 0) 256)) None)) ≡ shape_of c
    unfolding shape_of shapes first_shape
    with-short =
        simp (sym eb, ne_eqb (length c) 4 (omega arith), ne_eqb (length c) 5 (omega arith), lt-ltb 0 b some, ne_eqb b 0 (omega arith))

    pub shape_case3_short : length c ≡ 5 + b → framed c 5 b 0 0 ≡ shape_of c
    unfolding framed
    shape_case3_short h = simp (eq-eqb _ _ h, le-leb b 1024 (omega arith)) at with-short

    pub shape_case4_short : (l ne : ℕ) → l ≡ get_or c (5 + b) 0 → ne ≡ or_most l 256 → length c ≡ 6 + b → framed c 5 b 1 ne ≡ shape_of c
    unfolding framed
    shape_case4_short l ne el en h =
        simp (en, el) (simp (ne_eqb (length c) (5 + b) (omega arith), eq-eqb _ _ h, le-leb b 1024 (omega arith)) at with-short)

    pub shape-short-refused : (length c ≡ 5 + b → ⊥) → (length c ≡ 6 + b → ⊥) → None ≡ shape_of c
    shape-short-refused h k = simp (ne_eqb _ _ h, ne_eqb _ _ k) at with-short

  -- ---- the extended shapes

  module _ (eb : get_or c 4 0 ≡ 0) (w : ℕ) (ew : w ≡ be16_at c 5) (long : 5 < length c) where
    with-extended : up_to 1024 (if_else (eqb (length c) 7) (framed c 4 0 2 (or_most w 65536))
        (if_else (ltb 0 w && eqb (length c) (7 + w)) (framed c 7 w 0 0)
        (if_else (ltb 0 w && eqb (length c) (9 + w)) (framed c 7 w 2 (or_most (be16_at c (7 + w)) 65536)) None))) ≡ shape_of c
    unfolding shape_of shapes first_shape
    with-extended = simp (sym ew, eb, ne_eqb (length c) 4 (omega arith), ne_eqb (length c) 5 (omega arith))

    pub shape_six_refused : length c < 7 → None ≡ shape_of c
    shape_six_refused h =
        simp (
          ne_eqb (length c) 7 (omega arith),
          ne_eqb (length c) (7 + w) (omega arith),
          ne_eqb (length c) (9 + w) (omega arith),
          and-false,
        ) at with-extended

    pub shape_case2_extended : (ne : ℕ) → ne ≡ or_most w 65536 → length c ≡ 7 → framed c 4 0 2 ne ≡ shape_of c
    unfolding framed
    shape_case2_extended ne en h = simp en (simp (eq-eqb (length c) 7 h) at with-extended)

    pub shape_no_data_refused : 7 < length c → w ≡ 0 → None ≡ shape_of c
    shape_no_data_refused h e = simp (ne_eqb (length c) 7 (omega arith), e) at with-extended

    pub shape_too_much_refused : 7 < length c → 1024 < w → None ≡ shape_of c
    unfolding framed
    shape_too_much_refused h k =
        sym (if_else_ind (λ (a : Option Frame). up_to 1024 a ≡ None) (ltb 0 w && eqb (length c) (7 + w)) (λ _. simp (lt-leb w 1024 k))
        (λ _. if_else_ind (λ (a : Option Frame). up_to 1024 a ≡ None) (ltb 0 w && eqb (length c) (9 + w)) (λ _. simp (lt-leb w 1024 k)) (λ _. refl)))
        ∙ (simp (ne_eqb (length c) 7 (omega arith)) at with-extended)

    module _ (some : 0 < w) (small : w ≤ 1024) where
      pub shape_case3_extended : length c ≡ 7 + w → framed c 7 w 0 0 ≡ shape_of c
      unfolding framed
      shape_case3_extended h =
          simp (ne_eqb (length c) 7 (omega arith), lt-ltb 0 w some, eq-eqb _ _ h, le-leb w 1024 small) at with-extended

      pub shape_case4_extended : (l ne : ℕ) → l ≡ be16_at c (7 + w) → ne ≡ or_most l 65536 → length c ≡ 9 + w
          → framed c 7 w 2 ne ≡ shape_of c
      unfolding framed
      shape_case4_extended l ne el en h =
          simp (en, el)
          (simp (
            ne_eqb (length c) 7 (omega arith),
            lt-ltb 0 w some,
            ne_eqb (length c) (7 + w) (omega arith),
            eq-eqb _ _ h,
            le-leb w 1024 small,
          ) at with-extended)

      pub shape-extended-refused : 7 < length c → (length c ≡ 7 + w → ⊥) → (length c ≡ 9 + w → ⊥) → None ≡ shape_of c
      shape-extended-refused h k l =
          simp (ne_eqb (length c) 7 (omega arith), lt-ltb 0 w some, ne_eqb _ _ k, ne_eqb _ _ l) at with-extended

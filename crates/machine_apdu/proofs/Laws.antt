-- A command is accepted exactly where it has one of ISO's seven shapes and at most 1,024 bytes of data, and what holds of it then. Read
-- before: specs/Shape.antt. Exports `shape_sound` (what is accepted is a row of `shapes` whose test holds), `shape_complete` (each such row is
-- accepted), and `shape_facts` (bounds that the crates above use).
use Prim.Native.Nat.{ℕ, ◌+◌, ◌<◌, ◌≤◌}
use mathlib.Core.Path.{◌≡◌, refl, sym, subst, ◌∙◌}
use mathlib.Core.Bool.{Bool, true, ◌&&◌}
use mathlib.Core.Logic.{◌⊎◌, inl, inr}
use mathlib.Core.List.{List, [], ◌∷◌}
use native.Mathlib.Omega.{arith}
use lib.ListN.{length, get_or}
use lib.Dec.{ltb, leb, eqb}
use borrow.Author.Tests.{leb-true, ltb-true, eqb-true}
use Rattle.base.specs.Bytes.{AllBytes}
use Rattle.base.proofs.Cases.{by_cases, if_else_ind, and_left, and_right}
use Rattle.machine_apdu.specs.declared.Frame.{Frame}
use Rattle.machine_apdu.specs.Shape.{be16_at, or_most, header_of, framed, first_shape, shapes, up_to, shape_of}
use Rattle.machine_apdu.proofs.Rows.{shape_case1, shape_case2_short, shape_case3_short, shape_case4_short, shape_case2_extended, shape_case3_extended, shape_case4_extended}
use Rattle.std.specs.Prelude.{Option, Some, None}

pub record Facts (c : List ℕ) (f : Frame) : Type 0 where
  pub head : f.header ≡ header_of c
  pub four : 4 ≤ length c
  pub inside : f.from + f.lc ≤ length c
  pub few : f.lc ≤ 1024
  pub kind : f.le ≤ 2
  pub most : AllBytes c → f.ne ≤ 65536

-- an answer whose frame, if there is one, has these facts
abbrev pub WellFormed : List ℕ → Option Frame → Type 0
WellFormed c None = Unit {0}
WellFormed c (Some f) = Facts c f

-- one that is, if its data is not too long
abbrev Cuttable : List ℕ → Option Frame → Type 0
Cuttable c None = Unit {0}
Cuttable c (Some f) = f.lc ≤ 1024 → Facts c f

cut : (c : List ℕ) (a : Option Frame) → Cuttable c a → WellFormed c (up_to 1024 a)
cut c None p = tt
cut c (Some f) p = if_else_ind (WellFormed c) (leb f.lc 1024) (λ e. p (leb-true f.lc 1024 e)) (λ _. tt)

-- each row of a table of shapes, where its test holds
abbrev Rows : List ℕ → List (Bool × Option Frame) → Type 0
Rows c [] = Unit {0}
Rows c (row ∷ rows) = (row.0 ≡ true → Cuttable c row.1) × Rows c rows

first : (c : List ℕ) (rows : List (Bool × Option Frame)) → Rows c rows → Cuttable c (first_shape rows)
unfolding first_shape
first c [] p = tt
first c (row ∷ rows) p = if_else_ind (Cuttable c) row.0 p.0 (λ _. first c rows p.1)

or_most_lem : (n most : ℕ) → n ≤ 65536 → most ≤ 65536 → or_most n most ≤ 65536
unfolding or_most
or_most_lem n most h k = if_else_ind (λ (m : ℕ). m ≤ 65536) (eqb n 0) (λ _. k) (λ _. h)

pair_small : (c : List ℕ) (i : ℕ) → AllBytes c → be16_at c i ≤ 65536
unfolding be16_at AllBytes
pair_small c i h = omega (arith, h i, h (i + 1))

module _ (c : List ℕ) where
  row : (from lc le ne : ℕ) → 4 ≤ from → from + lc ≤ length c → le ≤ 2 → (AllBytes c → ne ≤ 65536) → Cuttable c (framed c from lc le ne)
  unfolding framed
  row from lc le ne h i k m few = record { head = refl; four = omega arith; inside = i; few = few; kind = k; most = m }

  module _ (b w : ℕ) (b-small : AllBytes c → b ≤ 65536) (w-small : AllBytes c → w ≤ 65536) where
    rows : Rows c (shapes c (length c) b w)
    unfolding shapes AllBytes
    rows = (
      (λ e. let l = eqb-true (length c) 4 e in row 4 0 0 0 (omega arith) (omega arith) (omega arith) (λ _. omega arith)),
      (
        (λ e. let l = eqb-true (length c) 5 e in
            row 4 0 1 _ (omega arith) (omega arith) (omega arith) (λ h. or_most_lem b 256 (b-small h) (omega arith))),
        (
          (λ e. let l = eqb-true (length c) (5 + b) (and_right (ltb 0 b) _ e) in
              row 5 b 0 0 (omega arith) (omega arith) (omega arith) (λ _. omega arith)),
          (
            (λ e. let l = eqb-true (length c) (6 + b) (and_right (ltb 0 b) _ e) in
                row 5 b 1 _ (omega arith) (omega arith) (omega arith)
                (λ h. or_most_lem (get_or c (5 + b) 0) 256 (omega (arith, h (5 + b))) (omega arith))),
            (
              (λ e. let l = eqb-true (length c) 7 (and_right (eqb b 0) _ e) in
                  row 4 0 2 _ (omega arith) (omega arith) (omega arith) (λ h. or_most_lem w 65536 (w-small h) (omega arith))),
              (
                (λ e. let l = eqb-true (length c) (7 + w) (and_right (ltb 0 w) _ (and_right (eqb b 0) _ e)) in
                    row 7 w 0 0 (omega arith) (omega arith) (omega arith) (λ _. omega arith)),
                (
                  (λ e. let l = eqb-true (length c) (9 + w) (and_right (ltb 0 w) _ (and_right (eqb b 0) _ e)) in
                      row 7 w 2 _ (omega arith) (omega arith) (omega arith)
                      (λ h. or_most_lem (be16_at c (7 + w)) 65536 (pair_small c (7 + w) h) (omega arith))),
                  tt,
                ),
              ),
            ),
          ),
        ),
      ),
    )

  pub shape-well_formed : WellFormed c (shape_of c)
  unfolding shape_of AllBytes
  shape-well_formed =
      let table = shapes c (length c) (get_or c 4 0) (be16_at c 5) in
      cut c (first_shape table) (first c table (rows (get_or c 4 0) (be16_at c 5) (λ h. omega (arith, h 4)) (pair_small c 5)))

  -- of an answer that a caller has taken apart
  pub shape_facts : (a : Option Frame) (f : Frame) → a ≡ shape_of c → a ≡ Some f → Facts c f
  shape_facts a f e g = subst (WellFormed c) (sym e ∙ g) shape-well_formed

-- ---- what is accepted is a row of the table

-- the frame of a row whose test holds
abbrev pub SomeRow : Frame → List (Bool × Option Frame) → Type 0
SomeRow f [] = ⊥
SomeRow f (row ∷ rows) = ((row.0 ≡ true) × (row.1 ≡ Some f)) ⊎ SomeRow f rows

bad_good : {A : Type 0} {f : Frame} → None ≡ Some f → A
bad_good {A} {f} e = let z : ◌≡◌ {A = ℕ} 0 1 = cc in absurd (omega arith)

some_row : (f : Frame) (rows : List (Bool × Option Frame)) → first_shape rows ≡ Some f → SomeRow f rows
unfolding first_shape
some_row f [] e = bad_good e
some_row f (row ∷ rows) e = by_cases row.0 (λ t. inl (t, simp t at e)) (λ t. inr (some_row f rows (simp t at e)))

short : (f : Frame) (a : Option Frame) → up_to 1024 a ≡ Some f → (a ≡ Some f) × (f.lc ≤ 1024)
short f None e = bad_good e
short f (Some g) e =
    by_cases (leb g.lc 1024)
    (λ t. let q : Some g ≡ Some f = simp t at e in
    let s : g ≡ f = cc in
    (q, subst (λ (x : Frame). x.lc ≤ 1024) s (leb-true g.lc 1024 t)))
    (λ t. bad_good (simp t at e))

pub shape_sound : (c : List ℕ) (f : Frame) → shape_of c ≡ Some f → SomeRow f (shapes c (length c) (get_or c 4 0) (be16_at c 5)) × (f.lc ≤ 1024)
unfolding shape_of
shape_sound c f e =
    let table = shapes c (length c) (get_or c 4 0) (be16_at c 5) in
    let s = short f (first_shape table) e in
    (some_row f table s.0, s.1)

-- ---- each shape is accepted

-- the shape is the one that a row gives, if its data is not too long
abbrev pub Accepted : List ℕ → Option Frame → Type 0
Accepted c None = Unit {0}
Accepted c (Some f) = f.lc ≤ 1024 → shape_of c ≡ Some f

-- each row of a table of shapes, where its test holds
abbrev pub EachRow : List ℕ → List (Bool × Option Frame) → Type 0
EachRow c [] = Unit {0}
EachRow c (row ∷ rows) = (row.0 ≡ true → Accepted c row.1) × EachRow c rows

module _ (c : List ℕ) where
  extended : (w : ℕ) (t : Bool) → (eqb (get_or c 4 0) 0 && (ltb 0 w && t)) ≡ true → (get_or c 4 0 ≡ 0) × (0 < w) × (t ≡ true)
  extended w t e =
      let f = and_right (eqb (get_or c 4 0) 0) (ltb 0 w && t) e in
      (eqb-true (get_or c 4 0) 0 (and_left (eqb (get_or c 4 0) 0) (ltb 0 w && t) e), ltb-true 0 w (and_left (ltb 0 w) t f), and_right (ltb 0 w) t f)

  pub shape_complete : EachRow c (shapes c (length c) (get_or c 4 0) (be16_at c 5))
  unfolding shapes framed
  shape_complete =
      let b = get_or c 4 0 in
      let w = be16_at c 5 in (
        λ e few. sym (shape_case1 c (eqb-true (length c) 4 e)),
        (
          λ e few. sym (shape_case2_short c b _ refl refl (eqb-true (length c) 5 e)),
          (
            λ e few. let l = eqb-true (length c) (5 + b) (and_right (ltb 0 b) _ e) in
                sym (shape_case3_short c b refl (ltb-true 0 b (and_left (ltb 0 b) _ e)) few (omega (arith, ltb-true 0 b (and_left (ltb 0 b) _ e))) l),
            (
              λ e few. let l = eqb-true (length c) (6 + b) (and_right (ltb 0 b) _ e) in
                  sym (shape_case4_short c b refl (ltb-true 0 b (and_left (ltb 0 b) _ e)) few (omega arith) _ _ refl refl l),
              (
                λ e few. let l = eqb-true (length c) 7 (and_right (eqb b 0) _ e) in
                    sym (shape_case2_extended c (eqb-true b 0 (and_left (eqb b 0) _ e)) w refl (omega arith) _ refl l),
                (
                  λ e few. let x = extended w (eqb (length c) (7 + w)) e in
                      let l = eqb-true (length c) (7 + w) x.2 in
                      sym (shape_case3_extended c x.0 w refl (omega arith) x.1 few l),
                  (
                    λ e few. let x = extended w (eqb (length c) (9 + w)) e in
                        let l = eqb-true (length c) (9 + w) x.2 in
                        sym (shape_case4_extended c x.0 w refl (omega arith) x.1 few _ _ refl refl l),
                    tt,
                  ),
                ),
              ),
            ),
          ),
        ),
      )

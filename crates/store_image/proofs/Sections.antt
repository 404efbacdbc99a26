-- A walk over the sections of an image: what is left to pass answers for the whole.
-- Read before: specs/Image.antt. Exports: `Seeking`, `seek-…` (a search for a kind), `SectionOk`, `section_ok-…` (one section), `Walking`,
-- `walk-…` (the test of all sections), `sections_ok_end`.
use Prim.Native.Nat.{ℕ, zero, suc, ◌+◌, ◌≤◌, ◌<◌}
use mathlib.Core.Path.{◌≡◌, refl, sym, ap, ap₂, ◌∙◌}
use mathlib.Core.Bool.{Bool, true, false, ◌&&◌, and-true, and-false}
use mathlib.Core.List.{List}
use native.Mathlib.Omega.{arith}
use lib.ListN.{length}
use lib.Dec.{eqb}
use borrow.Author.Tests.{lt-leb, le-leb, leb-true, ltb-true, lt-ltb, le-ltb, eq-eqb, ne_eqb}
use Rattle.base.specs.Choice.{all_of}
use Rattle.base.specs.Bytes.{part}
use Rattle.base.proofs.Cases.{all_of_facts}
use Rattle.store_kinds.specs.Rules.{application_of, kind_ok}
use Rattle.store_image.specs.Image.{len_at, kind_at, body_at, end_at, choose, find_from, find, present, section_ok, sections_ok, well_formed}
use Rattle.store_image.specs.Loops.{present_behind}
use Rattle.std.specs.Prelude.{Some, None}

-- ---- looking for a kind

pub record Seeking (img : List ℕ) (k p : ℕ) : Type 0 where
  pub fuel : ℕ
  pub enough : length img ≤ p + fuel
  pub same : find img k ≡ find_from fuel img p k

pub seek_start : (img : List ℕ) (k : ℕ) → Seeking img k 0
unfolding find
seek_start img k = record { fuel = length img; enough = omega arith; same = refl }

-- nothing is found past the end, or from a section on that is not whole
pub find_from-short : (n : ℕ) (img : List ℕ) (p k : ℕ) → length img < end_at img p → find_from n img p k ≡ None
unfolding find_from
find_from-short zero img p k h = refl
find_from-short (suc n) img p k h = simp (lt-leb _ _ h)

-- at a whole section there is fuel left
find-step : (n : ℕ) (img : List ℕ) (p k : ℕ) → length img ≤ p + n → end_at img p ≤ length img
    → (m : ℕ) × (length img ≤ end_at img p + m) × (find_from n img p k ≡ choose true (eqb (kind_at img p) k) (Some (p + 6, len_at img p)) (find_from m img (end_at img p) k))
unfolding find_from
find-step zero img p k e h = absurd (omega arith)
find-step (suc n) img p k e h = (n, omega arith, simp (le-leb _ _ h))

-- a turn of the walk at p, as the code has the section's length l and kind j
module _ (img : List ℕ) (k p : ℕ) (s : Seeking img k p) where
  pub seek_none : length img < end_at img p → None ≡ find img k
  seek_none h = sym (s.same ∙ find_from-short s.fuel img p k h)

  module _ (l j : ℕ) (el : l ≡ len_at img p) (ej : j ≡ kind_at img p) (h : p + 6 + l ≤ length img) where
    turn : (m : ℕ) × (length img ≤ end_at img p + m) × (find_from s.fuel img p k ≡ choose true (eqb (kind_at img p) k) (Some (p + 6, len_at img p)) (find_from m img (end_at img p) k))
    turn = find-step s.fuel img p k s.enough (omega arith)

    pub seek_hit : j ≡ k → Some (p + 6, l) ≡ find img k
    seek_hit e =
        ap (λ (m : ℕ). Some (p + 6, m)) el
        ∙ sym (s.same ∙ turn.2 ∙ ap (λ (b : Bool). choose true b (Some (p + 6, len_at img p)) (find_from turn.0 img (end_at img p) k)) (eq-eqb (kind_at img p) k (sym ej ∙ e)))

    pub seek_next : (j ≡ k → ⊥) → Seeking img k (p + 6 + l)
    seek_next e = rw el (record {
      fuel = turn.0;
      enough = turn.1;
      same = s.same ∙ turn.2 ∙ ap (λ (b : Bool). choose true b (Some (p + 6, len_at img p)) (find_from turn.0 img (end_at img p) k)) (ne_eqb (kind_at img p) k (λ q. e (ej ∙ q)));
    })

-- ---- one section

module _ (img : List ℕ) (p last : ℕ) where
  pub record SectionOk : Type 0 where
    pub whole : end_at img p ≤ length img
    pub after : last < kind_at img p
    pub right : kind_ok (kind_at img p) (body_at img p) ≡ true
    pub beside : present img (application_of (kind_at img p)) ≡ true

  pub section_ok_facts : section_ok img p last ≡ true → SectionOk
  unfolding section_ok
  section_ok_facts e = let h = all_of_facts _ e in record { whole = leb-true _ _ h.0; after = ltb-true _ _ h.1.0; right = h.1.1.0; beside = h.1.1.1.0 }

  pub section_ok-order : kind_at img p ≤ last → section_ok img p last ≡ false
  unfolding section_ok all_of
  section_ok-order h = simp (le-ltb _ _ h, and-false)

  -- as the code has the section's length l, its kind j and whether its body is one of that kind
  module _ (l j : ℕ) (el : l ≡ len_at img p) (ej : j ≡ kind_at img p) (b : List ℕ) (eb : b ≡ part img (p + 6) l) where
    same_body : kind_ok (kind_at img p) (body_at img p) ≡ kind_ok j b
    same_body = ap₂ kind_ok (sym ej) (sym (eb ∙ ap (part img (p + 6)) el))

    pub section_ok-body : kind_ok j b ≡ false → section_ok img p last ≡ false
    unfolding section_ok all_of
    section_ok-body e = simp (same_body ∙ e, and-false)

    pub section_ok_rest : p + 6 + l ≤ length img → last < j → kind_ok j b ≡ true → section_ok img p last ≡ present img (application_of j)
    unfolding section_ok all_of
    section_ok_rest h i e =
        simp (le-leb (end_at img p) (length img) (omega arith), lt-ltb last (kind_at img p) (omega arith), same_body ∙ e, ← ej, and-true)

-- ---- all of them

pub record Walking (img : List ℕ) (p last : ℕ) : Type 0 where
  pub fuel : ℕ
  pub enough : length img ≤ p + fuel
  pub same : well_formed img ≡ sections_ok fuel img p last
  pub beside : present_behind img last

pub walk_start : (img : List ℕ) → length img ≤ 262144 → Walking img 0 0
unfolding well_formed all_of
walk_start img h =
    record { fuel = length img; enough = omega arith; same = simp (le-leb _ _ h, and-true); beside = λ e. absurd (e refl) }

pub walk_long : (img : List ℕ) → 262144 < length img → false ≡ well_formed img
unfolding well_formed all_of
walk_long img h = simp (lt-leb _ _ h)

pub sections_ok_end : (n : ℕ) (img : List ℕ) (p last : ℕ) → length img ≤ p → sections_ok n img p last ≡ true
unfolding sections_ok
sections_ok_end zero img p last h = le-leb _ _ h
sections_ok_end (suc n) img p last h = simp (le-leb _ _ h)

walk_step : (n : ℕ) (img : List ℕ) (p last : ℕ) → length img ≤ p + n → p < length img
    → (m : ℕ) × (length img ≤ p + 1 + m) × (sections_ok n img p last ≡ (section_ok img p last && sections_ok m img (end_at img p) (kind_at img p)))
unfolding sections_ok
walk_step zero img p last e h = absurd (omega arith)
walk_step (suc n) img p last e h = (n, omega arith, simp (lt-leb _ _ h))

module _ (img : List ℕ) (p last : ℕ) (w : Walking img p last) where
  pub walk_end : length img ≤ p → true ≡ well_formed img
  walk_end h = sym (w.same ∙ sections_ok_end w.fuel img p last h)

  module _ (h : p < length img) where
    pass : (m : ℕ) × (length img ≤ p + 1 + m) × (sections_ok w.fuel img p last ≡ (section_ok img p last && sections_ok m img (end_at img p) (kind_at img p)))
    pass = walk_step w.fuel img p last w.enough h

    pub walk_refused : section_ok img p last ≡ false → false ≡ well_formed img
    walk_refused e = sym (w.same ∙ pass.2 ∙ ap (λ (b : Bool). b && sections_ok pass.0 img (end_at img p) (kind_at img p)) e)

    -- as the code has the section's length l and kind j
    pub walk_next : (l j : ℕ) → l ≡ len_at img p → j ≡ kind_at img p → section_ok img p last ≡ true → Walking img (p + 6 + l) j
    walk_next l j el ej e = rw (el, ej) (record {
      fuel = pass.0;
      enough = omega (arith, pass.1);
      same = w.same ∙ pass.2 ∙ ap (λ (b : Bool). b && sections_ok pass.0 img (end_at img p) (kind_at img p)) e;
      beside = λ _. (section_ok_facts img p last e).beside;
    })

-- What each function of an index answers and leaves of the list, by the tests in their order.
-- Read before: specs/Index.antt, Places. Exports: `Builds`, `build_ok_…`, `build-…`; `Extends`, `extend_ok_…`, `extend-…`; `whole-…`, `read_ok_…`, `measure-…`;
-- `Measured`, `Told`, `told` (what an answer of `measure` tells); `part-…` (what is returned).
use Prim.Native.Nat.{ℕ, ◌+◌, ◌-◌, ◌≤◌, ◌<◌}
use mathlib.Core.Path.{◌≡◌, refl, sym, ◌∙◌, subst}
use mathlib.Core.Bool.{true, false, and-false}
use mathlib.Core.List.{List}
use native.Mathlib.Omega.{arith}
use lib.ListN.{length, get_or, set}
use lib.Seq.{sets}
use borrow.Author.Tests.{lt-leb, le-leb, leb-true, lt-ltb, ltb-true, eq-eqb, eqb-true}
use denote.Ref.{Bor}
use Rattle.base.specs.Choice.{all_of}
use Rattle.base.specs.Lent.{PartOf, WholePart}
use Rattle.base.proofs.Cases.{all_of_facts, all_of_accepted, if_else_ind}
use Rattle.base.proofs.Lending.{whole_part_is}
use Rattle.store_records.specs.Little.{le16}
use Rattle.store_records.specs.Body.{count, next_place, place}
use Rattle.store_index.specs.Index.{places_to, record_file_ok, build_ok, build, build_into, extend_ok, extend, extend_into, place_for, read_ok, measure, IndexedPart}
use Rattle.std.specs.Prelude.{Option, Some, None}

-- ---- build

module _ (k : ℕ) (xs ps : List ℕ) where
  abbrev pub Builds : Option ℕ → List ℕ → Type 0
  Builds r l = (r ≡ build k xs ps) × (l ≡ build_into k xs ps)

  pub build_ok_facts : build_ok k xs ps ≡ true → (record_file_ok k xs ≡ true) × (count xs ≤ length ps)
  unfolding build_ok
  build_ok_facts e = let h = all_of_facts _ e in (h.0, leb-true _ _ h.1.0)

  pub build_ok_accepted : record_file_ok k xs ≡ true → count xs ≤ length ps → build_ok k xs ps ≡ true
  unfolding build_ok
  build_ok_accepted e h = all_of_accepted _ (e, (le-leb _ _ h, tt))

  pub build-refused : build_ok k xs ps ≡ false → Builds None ps
  unfolding build build_into
  build-refused e = (simp e, simp e)

  pub build-done : (n : ℕ) (l : List ℕ) → record_file_ok k xs ≡ true → n ≡ count xs → n ≤ length ps → l ≡ sets ps 0 (places_to xs n) → Builds (Some n) l
  unfolding build build_into
  build-done n l e c h f =
      let t = build_ok_accepted e (omega arith) in (simp (t, c), f ∙ simp (t, c))

-- ---- extend

module _ (k : ℕ) (xs ps : List ℕ) (n : ℕ) where
  abbrev pub Extends : Option ℕ → List ℕ → Type 0
  Extends r l = (r ≡ extend k xs ps n) × (l ≡ extend_into k xs ps n)

  pub extend_ok_facts : extend_ok k xs ps n ≡ true → (record_file_ok k xs ≡ true) × (n + 1 ≡ count xs) × (n < length ps)
  unfolding extend_ok
  extend_ok_facts e = let h = all_of_facts _ e in (h.0, eqb-true _ _ h.1.0, ltb-true _ _ h.1.1.0)

  pub extend_ok_accepted : record_file_ok k xs ≡ true → n + 1 ≡ count xs → n < length ps → extend_ok k xs ps n ≡ true
  unfolding extend_ok
  extend_ok_accepted e c h = all_of_accepted _ (e, (eq-eqb _ _ c, (lt-ltb _ _ h, tt)))

  pub extend-refused : extend_ok k xs ps n ≡ false → Extends None ps
  unfolding extend extend_into
  extend-refused e = (simp e, simp e)

  pub extend-done : record_file_ok k xs ≡ true → n + 1 ≡ count xs → n < length ps → Extends (Some (n + 1)) (set ps n (place xs n))
  unfolding extend extend_into
  extend-done e c h =
      let t = extend_ok_accepted e c h in (simp t, simp t)

-- ---- read

module _ (xs ps : List ℕ) (n : ℕ) where
  pub read_ok_facts : read_ok xs ps n ≡ true → (1 ≤ n) × (n ≤ length ps) × (next_place xs (get_or ps (n - 1) 0) ≤ length xs)
  unfolding read_ok place_for
  read_ok_facts e = let h = all_of_facts _ e in (leb-true _ _ h.0, leb-true _ _ h.1.0, leb-true _ _ h.1.1.0)

  pub read_ok_accepted : 1 ≤ n → n ≤ length ps → next_place xs (get_or ps (n - 1) 0) ≤ length xs → read_ok xs ps n ≡ true
  unfolding read_ok place_for
  read_ok_accepted h i w = all_of_accepted _ (le-leb _ _ h, (le-leb _ _ i, (le-leb _ _ w, tt)))

  pub measure-refused : read_ok xs ps n ≡ false → None ≡ measure xs ps n
  unfolding measure
  measure-refused e = simp e

  pub measure-zero : n < 1 → None ≡ measure xs ps n
  measure-zero h = measure-refused (unfold read_ok all_of in simp (lt-leb _ _ h))

  pub measure_past : length ps < n → None ≡ measure xs ps n
  measure_past h = measure-refused (unfold read_ok all_of in simp (lt-leb _ _ h, and-false))

  pub measure-whole : 1 ≤ n → n ≤ length ps → next_place xs (get_or ps (n - 1) 0) ≤ length xs → Some (le16 xs (get_or ps (n - 1) 0)) ≡ measure xs ps n
  unfolding measure place_for
  measure-whole h i w = simp (read_ok_accepted h i w)

  -- what an answer tells
  pub record Measured (l : ℕ) : Type 0 where
    pub first : 1 ≤ n
    pub last : n ≤ length ps
    pub within : next_place xs (place_for ps n) ≤ length xs
    pub says : l ≡ le16 xs (place_for ps n)

  abbrev pub Told : Option ℕ → Type 0
  Told (Some l) = Measured l
  Told None = read_ok xs ps n ≡ false

  pub told : (a : Option ℕ) → measure xs ps n ≡ a → Told a
  unfolding measure place_for
  told a e =
      subst Told e
      (if_else_ind Told (read_ok xs ps n) (λ t. let h = read_ok_facts t in record { first = h.0; last = h.1; within = h.2; says = refl }) (λ f. f))

-- ---- what is returned

module _ (body : Bor (List ℕ)) (ps : List ℕ) (n : ℕ) (r : Bor (List ℕ)) where
  abbrev Returned : Type 0
  Returned = IndexedPart (measure body.now ps n) ps n body r

  returned : (a : Option ℕ) → measure body.now ps n ≡ a → IndexedPart a ps n body r → Returned
  returned a e p = subst (λ (x : Option ℕ). IndexedPart x ps n body r) (sym e) p

  pub part_counted : (p l : ℕ) → measure body.now ps n ≡ Some l → p ≡ get_or ps (n - 1) 0 → WholePart body (p + 2) l r → Returned
  unfolding place_for
  part_counted p l e q c =
      let t = told body.now ps n (Some l) e in
      let w : p + 2 + l ≤ length body.now = omega (arith, t.within, t.says) in
      returned (Some l) e (subst (λ (x : ℕ). PartOf body (x + 2) l r) q (whole_part_is body (p + 2) l r w c))

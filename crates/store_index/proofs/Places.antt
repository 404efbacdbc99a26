-- The list of places, and what a body of a record file is.
-- Read before: specs/Index.antt. Exports: `length-places`, `get_d_places`, `places-turn`, `places_done` (the list), `record_file_ok-…` (the test by its two parts,
-- and what it tells), `Stands`, `stands`, `place_read` (a place is within the body, and small), `ByRow`, `record_file_ok_row`,
-- `row_record_file_ok` (the test by the rule table's rows).
use Prim.Native.Nat.{ℕ, suc, ◌+◌, ◌≤◌, ◌<◌, min}
use mathlib.Core.Path.{◌≡◌, refl, sym, ap, ap₂, ◌∙◌}
use mathlib.Core.Bool.{true, false, and-true}
use mathlib.Core.List.{List, [], ◌∷◌, ◌++◌, append-nil, Memᴰ}
use native.Mathlib.Omega.{arith}
use native.Mathlib.Numerals.{add-one}
use lib.ListN.{length, get_or, set, take, drop, drop_of_length-le}
use lib.Seq.{sets, sets-eq, length-take-le}
use borrow.Author.Tests.{not-true, lt-leb, eqb-true}
use Rattle.base.specs.Choice.{all_of}
use Rattle.base.proofs.Cases.{all_of_facts}
use Rattle.base.proofs.Lists.{grown_length, grown_at}
use Rattle.base.proofs.Runs.{sets_snoc}
use Rattle.store_records.specs.Body.{count, place, body_ok}
use Rattle.store_records.proofs.Bodies.{body_ok-place, body_ok_facts}
use Rattle.store_kinds.specs.Rules.{rules, rule_of, is_biometrics, kind_ok}
use Rattle.store_kinds.specs.declared.rules.Key.TheVariants.{Kind}
use Rattle.store_kinds.specs.declared.rules.Rule.{Rule}
use Rattle.store_kinds.proofs.Table.{rule-listed, rule_key, rule_regular, listed_regular}
use Rattle.store_kinds.proofs.ByKind.{OfRule, kind_ok-rule, kind_ok-ruled, place_small}
use Rattle.store_index.specs.Index.{places_to, record_file_ok}
use Rattle.std.specs.Prelude.{Some}

-- ---- the list

module _ (xs : List ℕ) where
  start : places_to xs 0 ≡ []
  unfolding places_to
  start = refl

  next : (n : ℕ) → places_to xs (suc n) ≡ places_to xs n ++ (place xs n ∷ [])
  unfolding places_to
  next n = refl

  pub length-places : (n : ℕ) → length (places_to xs n) ≡ n
  length-places = grown_length (place xs) (places_to xs) start next

  pub get_d_places : (n i : ℕ) → i < n → get_or (places_to xs n) i 0 ≡ place xs i
  get_d_places n i h = grown_at (place xs) (places_to xs) start next 0 n i h

-- one place more behind those written
pub places-turn : (xs l d : List ℕ) (i at : ℕ) → d ≡ sets l 0 (places_to xs i) → at ≡ place xs i → set d i at ≡ sets l 0 (places_to xs (i + 1))
unfolding places_to
places-turn xs l d i at e q =
    let n : 0 + length (places_to xs i) ≡ i = (let z = length-places xs i in omega arith) in
    ap₂ (λ (a : List ℕ) (b : ℕ). set a i b) e q
    ∙ sym (ap (λ (k : ℕ). sets l 0 (places_to xs k)) (add-one i)
    ∙ sets_snoc l 0 (places_to xs i) (place xs i)
    ∙ ap (λ (k : ℕ). set (sets l 0 (places_to xs i)) k (place xs i)) n)

-- the first n places written, in the part of the list that is lent for them
pub places_done : (xs l d : List ℕ) (n i : ℕ) → d ≡ sets (take n l) 0 (places_to xs i) → i ≡ n → n ≤ length l → d ++ drop n l ≡ sets l 0 (places_to xs n)
places_done xs l d n i e q h =
    let vs : List ℕ = places_to xs n in
    let m : length vs ≡ n = length-places xs n in
    let t : length (take n l) ≡ n = length-take-le n l h in
    let z : 0 + length vs ≡ n = omega arith in
    let none : drop (0 + length vs) (take n l) ≡ [] = drop_of_length-le (take n l) (omega arith) in
    let part : d ≡ vs =
    e
    ∙ ap (λ (k : ℕ). sets (take n l) 0 (places_to xs k)) q
    ∙ sets-eq vs (take n l) 0 (omega arith)
    ∙ ap (λ (r : List ℕ). vs ++ r) none
    ∙ append-nil vs in
    ap (λ (r : List ℕ). r ++ drop n l) part ∙ sym (sets-eq vs l 0 (omega arith) ∙ ap (λ (k : ℕ). vs ++ drop k l) z)

-- ---- a body of a record file

module _ (k : ℕ) (xs : List ℕ) where
  pub record_file_ok-biometrics : is_biometrics k ≡ true → record_file_ok k xs ≡ false
  unfolding record_file_ok all_of
  record_file_ok-biometrics b = simp b

  pub record_file_ok-kind : is_biometrics k ≡ false → kind_ok k xs ≡ record_file_ok k xs
  unfolding record_file_ok all_of
  record_file_ok-kind b = simp (b, and-true)

  pub record_file_ok_facts : record_file_ok k xs ≡ true → OfRule k xs
  unfolding record_file_ok
  record_file_ok_facts e = let h = all_of_facts _ e in kind_ok-ruled k xs (not-true (is_biometrics k) h.0) h.1.0

  pub record_file_ok-body_ok : (r : Rule) → rule_of (Kind k) ≡ Some r → record_file_ok k xs ≡ true → body_ok r.longest r.most xs ≡ true
  unfolding record_file_ok
  record_file_ok-body_ok r i e = sym (kind_ok-rule k xs r i) ∙ (all_of_facts _ e).1.0

  pub record_file_ok_few : record_file_ok k xs ≡ true → count xs ≤ 254
  record_file_ok_few e =
      let o = record_file_ok_facts e in
      let r = o.rule in
      omega (arith, (body_ok_facts r.longest r.most xs o.ok).few, (rule_regular (Kind k) r o.ruled).many)

  -- the place of a record, and of the one that would be next, is within the body, and small
  pub record Stands (n : ℕ) : Type 0 where
    pub within : place xs n ≤ length xs
    pub small : place xs n < 262144

  pub stands : (n : ℕ) → record_file_ok k xs ≡ true → n ≤ count xs → Stands n
  stands n e h =
      let o = record_file_ok_facts e in
      let r = o.rule in
      record { within = body_ok-place r.longest r.most xs n o.ok h; small = place_small (Kind k) r xs n o.ruled o.ok h }

-- the same, as the code has it
pub place_read : (k : ℕ) (xs : List ℕ) (n p : ℕ) → record_file_ok k xs ≡ true → n ≤ count xs → p ≡ place xs (min n 65535) → p < 4294967296
place_read k xs n p e h f =
    let m : min n 65535 ≤ count xs = omega arith in
    let s = (stands k xs (min n 65535) e m).small in
    omega arith

-- ---- the same by the rows of the rule table

module _ (k : ℕ) (xs : List ℕ) where
  -- a row has the kind, and the body is well formed by it
  abbrev pub ByRow : Type 0
  ByRow = (r : Rule) × Memᴰ r rules × (r.kind ≡ k) × (body_ok r.longest r.most xs ≡ true)

  pub record_file_ok_row : record_file_ok k xs ≡ true → ByRow
  record_file_ok_row e =
      let o = record_file_ok_facts k xs e in
      let r = o.rule in
      (r, rule-listed (Kind k) r o.ruled, eqb-true r.kind k (rule_key (Kind k) r o.ruled), o.ok)

  pub row_record_file_ok : ByRow → record_file_ok k xs ≡ true
  unfolding is_biometrics all_of
  row_record_file_ok h =
      let r = h.0 in
      let g = listed_regular r h.1 in
      let i : rule_of (Kind k) ≡ Some r = ap (λ (j : ℕ). rule_of (Kind j)) (sym h.2) ∙ g.by_kind in
      let b : is_biometrics k ≡ false = simp (lt-leb 0x0401 k (omega (arith, g.high, g.last, h.2))) in
      sym (record_file_ok-kind k xs b) ∙ kind_ok-rule k xs r i ∙ h.3

-- Record bodies: where records stand, and what a well-formed body has.
-- Read before: specs/Body.antt. Exports: `ok_at-…`, `ok_to-…`, `body_ok-…` (the tests taken apart and put together), `place-…` (places grow),
-- `records-length`, `records-at`, `nth-…` (records by number), `behind-…` (a step of a walk).
use Prim.Native.Nat.{ℕ, zero, suc, ◌+◌, ◌-◌, ◌≤◌, ◌<◌}
use mathlib.Core.Path.{◌≡◌, refl, sym, ap, ◌∙◌, subst}
use mathlib.Core.Bool.{true, false, and-true, and-false}
use mathlib.Core.List.{List, [], ◌∷◌, ◌++◌}
use native.Mathlib.Omega.{arith}
use native.Mathlib.Numerals.{add-one}
use native.Mathlib.Nat.{add-zero, add-suc, add-sub_of_le}
use lib.ListN.{length, get_or, get_or-eq_default}
use lib.Dec.{leb}
use borrow.Author.Tests.{lt-ltb, le-ltb, lt-leb, le-leb, leb-true}
use Rattle.base.specs.Choice.{all_of}
use Rattle.base.proofs.Lists.{grown_length, grown_at}
use Rattle.base.proofs.Parts.{part_past}
use Rattle.base.proofs.Cases.{by_cases, all_of_facts, all_of_accepted}
use Rattle.store_records.specs.Little.{le16}
use Rattle.store_records.specs.Body.{count, next_place, behind, place, record_at, firsts, records, nth, ok_at, ok_to, body_ok}

-- ---- a record at a place

module _ (L : ℕ) (xs : List ℕ) (p : ℕ) where
  pub record OkAt : Type 0 where
    pub some : 1 ≤ le16 xs p
    pub short : le16 xs p ≤ L
    pub whole : next_place xs p ≤ length xs

  pub ok_at_facts : ok_at L xs p ≡ true → OkAt
  unfolding ok_at
  ok_at_facts e =
      let h = all_of_facts _ e in
      record { some = leb-true _ _ h.0; short = leb-true _ _ h.1.0; whole = leb-true _ _ h.1.1.0 }

  pub ok_at_rest : 1 ≤ le16 xs p → le16 xs p ≤ L → ok_at L xs p ≡ leb (next_place xs p) (length xs)
  unfolding ok_at all_of
  ok_at_rest h i = simp (le-leb _ _ h, le-leb _ _ i, and-true)

  pub ok_at_accepted : 1 ≤ le16 xs p → le16 xs p ≤ L → next_place xs p ≤ length xs → ok_at L xs p ≡ true
  ok_at_accepted h i j = ok_at_rest h i ∙ le-leb _ _ j

-- ---- places grow

pub place-zero : (xs : List ℕ) → place xs 0 ≡ 2
unfolding place
place-zero xs = refl

pub place-suc : (xs : List ℕ) (n : ℕ) → place xs (n + 1) ≡ next_place xs (place xs n)
unfolding place
place-suc xs n = rw add-one

place_grow : (xs : List ℕ) (k i : ℕ) → place xs i ≤ place xs (i + k)
place_grow xs zero i = simp add-zero (omega arith)
place_grow xs (suc k) i =
    let h : place xs i ≤ place xs (i + k) = place_grow xs k i in
    rw (add-suc, ← add-one, place-suc) (omega arith)

pub place-le : (xs : List ℕ) (i n : ℕ) → i ≤ n → place xs i ≤ place xs n
place-le xs i n h = subst (λ (m : ℕ). place xs i ≤ place xs m) (add-sub_of_le h) (place_grow xs (n - i) i)

pub place_lt : (xs : List ℕ) (i n : ℕ) → i < n → next_place xs (place xs i) ≤ place xs n
place_lt xs i n h = subst (λ (m : ℕ). m ≤ place xs n) (place-suc xs i) (place-le xs (i + 1) n (omega arith))

pub place-low : (xs : List ℕ) (n : ℕ) → 2 ≤ place xs n
place-low xs n = let l = place-le xs 0 n (omega arith) in let z = place-zero xs in omega arith

-- one turn of a walk over the records: `at` is the place of i, k the length there
pub place-turn : (xs : List ℕ) (i at k : ℕ) → at ≡ place xs i → k ≡ le16 xs at → at + 2 + k ≡ place xs (i + 1)
place-turn xs i at k e l = ap (λ (m : ℕ). at + 2 + m) l ∙ ap (next_place xs) e ∙ sym (place-suc xs i)

-- ---- the first n records are right

pub ok_to-zero : (L : ℕ) (xs : List ℕ) → ok_to L xs 0 ≡ true
unfolding ok_to
ok_to-zero L xs = refl

pub ok_to-suc : (L : ℕ) (xs : List ℕ) (n : ℕ) → ok_to L xs n ≡ true → ok_at L xs (place xs n) ≡ true → ok_to L xs (n + 1) ≡ true
unfolding ok_to
ok_to-suc L xs n h e = rw (add-one, h, e)

-- one bad record spoils all that come after it
ok_to-refused_grow : (L : ℕ) (xs : List ℕ) (i k : ℕ) → ok_at L xs (place xs i) ≡ false → ok_to L xs (suc (i + k)) ≡ false
unfolding ok_to
ok_to-refused_grow L xs i zero e = simp (add-zero, e, and-false)
ok_to-refused_grow L xs i (suc k) e = let h : ok_to L xs (suc (i + k)) ≡ false = ok_to-refused_grow L xs i k e in simp (add-suc) (rw h)

pub ok_to-refused : (L : ℕ) (xs : List ℕ) (i n : ℕ) → i < n → ok_at L xs (place xs i) ≡ false → ok_to L xs n ≡ false
ok_to-refused L xs i n h e = subst (λ (m : ℕ). ok_to L xs m ≡ false) (omega arith) (ok_to-refused_grow L xs i (n - suc i) e)

-- and a good whole has good records
pub ok_to-at : (L : ℕ) (xs : List ℕ) (i n : ℕ) → i < n → ok_to L xs n ≡ true → ok_at L xs (place xs i) ≡ true
ok_to-at L xs i n h e = by_cases (ok_at L xs (place xs i)) (λ f. f) (λ f. f ∙ sym (ok_to-refused L xs i n h f) ∙ e)

pub ok_to-place : (L : ℕ) (xs : List ℕ) (n : ℕ) → 2 ≤ length xs → ok_to L xs n ≡ true → place xs n ≤ length xs
unfolding place
ok_to-place L xs zero h e = h
ok_to-place L xs (suc n) h e = (ok_at_facts L xs (place xs n) (ok_to-at L xs n (suc n) (omega arith) e)).whole

-- ---- a body

module _ (L M : ℕ) (xs : List ℕ) where
  pub record BodyOk : Type 0 where
    pub long : 2 ≤ length xs
    pub few : count xs ≤ M
    pub all : ok_to L xs (count xs) ≡ true

  pub body_ok_facts : body_ok L M xs ≡ true → BodyOk
  unfolding body_ok
  body_ok_facts e = let h = all_of_facts _ e in record { long = leb-true _ _ h.0; few = leb-true _ _ h.1.0; all = h.1.1.0 }

  pub body_ok_accepted : 2 ≤ length xs → count xs ≤ M → ok_to L xs (count xs) ≡ true → body_ok L M xs ≡ true
  unfolding body_ok
  body_ok_accepted h i e = all_of_accepted _ (le-leb _ _ h, (le-leb _ _ i, (e, tt)))

  pub body_ok-short : length xs < 2 → body_ok L M xs ≡ false
  unfolding body_ok all_of
  body_ok-short h = simp (lt-leb _ _ h)

  pub body_ok-refused : (i : ℕ) → i < count xs → ok_at L xs (place xs i) ≡ false → body_ok L M xs ≡ false
  unfolding body_ok all_of
  body_ok-refused i h e = simp (ok_to-refused L xs i (count xs) h e, and-false)

  -- every record's place, and the end of the last, is within a good body
  pub body_ok-place : (n : ℕ) → body_ok L M xs ≡ true → n ≤ count xs → place xs n ≤ length xs
  body_ok-place n e h =
      let f = body_ok_facts e in
      let g : place xs (count xs) ≤ length xs = ok_to-place L xs (count xs) f.long f.all in
      let l : place xs n ≤ place xs (count xs) = place-le xs n (count xs) h in
      omega arith

-- ---- the records by number

module _ (xs : List ℕ) where
  abbrev record_behind : ℕ → List ℕ
  record_behind n = record_at xs (place xs n)

  next : (n : ℕ) → firsts xs (suc n) ≡ firsts xs n ++ (record_behind n ∷ [])
  unfolding firsts
  next n = refl

  start : firsts xs 0 ≡ []
  unfolding firsts
  start = refl

  pub firsts-length : (n : ℕ) → length (firsts xs n) ≡ n
  firsts-length = grown_length record_behind (firsts xs) start next

  pub records-length : length (records xs) ≡ count xs
  unfolding records
  records-length = firsts-length (count xs)

  -- the record behind the first i stands at their end
  pub records-at : (i : ℕ) → i < count xs → get_or (records xs) i [] ≡ record_at xs (place xs i)
  unfolding records
  records-at i h = grown_at record_behind (firsts xs) start next [] (count xs) i h

-- past the end there is no record, and a walk stays
pub record_at_past : (xs : List ℕ) (p : ℕ) → length xs ≤ p → record_at xs p ≡ []
record_at_past xs p h = part_past xs (p + 2) (le16 xs p) (omega arith)

pub behind_past : (xs : List ℕ) (p : ℕ) → length xs ≤ p → behind xs p ≡ p
unfolding behind
behind_past xs p h = simp (le-ltb _ _ h)

pub behind_next : (xs : List ℕ) (p : ℕ) → p < length xs → behind xs p ≡ next_place xs p
unfolding behind
behind_next xs p h = simp (lt-ltb _ _ h)

-- record n by its place, and no record
pub nth-at : (xs : List ℕ) (n at : ℕ) → 1 ≤ n → n ≤ count xs → at ≡ place xs (n - 1) → record_at xs at ≡ nth (records xs) n
unfolding nth
nth-at xs zero at h i e = absurd (omega arith)
nth-at xs (suc n) at h i e =
    let z : suc n - 1 ≡ n = omega arith in
    ap (record_at xs) (e ∙ ap (place xs) z) ∙ sym (records-at xs n (omega arith))

pub nth-zero : (rs : List (List ℕ)) (n : ℕ) → n ≡ 0 → nth rs n ≡ []
unfolding nth
nth-zero rs n e = rw e

pub nth_past : (rs : List (List ℕ)) (n : ℕ) → length rs < n → nth rs n ≡ []
unfolding nth
nth_past rs zero h = refl
nth_past rs (suc n) h = get_or-eq_default rs [] (omega arith)

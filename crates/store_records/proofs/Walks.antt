-- A walk over the records of a body, each behind the one before: it meets the body's records, whatever the bytes are. Past the end a walk
-- by `behind` stands still while `place` goes on, and there is only the empty record for either.
-- Read before: specs/Body.antt. Exports: `Walked` (where a walk stands), `walked_start`, `walked_first`, `walked_next`, and what is met:
-- `walked_nth`, and `walked_nth-take` with `records-length-take` for the first m records.
use Prim.Native.Nat.{ℕ, ◌+◌, ◌≤◌, ◌<◌, min}
use mathlib.Core.Path.{◌≡◌, sym, ap, ◌∙◌}
use mathlib.Core.List.{List, []}
use native.Mathlib.Omega.{arith}
use native.Mathlib.Numerals.{add-one}
use lib.ListN.{length, get_or, take, length-take}
use lib.Seq.{get_or-take}
use lib.Dec.{ltb}
use borrow.Author.Tests.{ltb-true, ltb-false}
use Rattle.base.proofs.Cases.{by_cases}
use Rattle.store_records.specs.Body.{count, next_place, behind, place, record_at, records, nth}
use Rattle.store_records.proofs.Bodies.{place-zero, place-suc, records-length, records-at, record_at_past, behind_next, behind_past}

-- a walk that has passed n records stands at `at`: where the next record stands, or past the end, where that record would stand too
pub data Walked (xs : List ℕ) (n at : ℕ) : Type 0 where
  inside : at ≡ place xs n → Walked xs n at
  past : length xs ≤ at → length xs ≤ place xs n → Walked xs n at

pub walked_start : (xs : List ℕ) (n at : ℕ) → at ≡ place xs n → Walked xs n at
walked_start xs n at e = inside e

pub walked_first : (xs : List ℕ) → Walked xs 0 2
walked_first xs = inside (sym (place-zero xs))

-- one turn: the walk goes to the place behind
pub walked_next : (xs : List ℕ) (n at at' : ℕ) → Walked xs n at → at' ≡ behind xs at → Walked xs (n + 1) at'
walked_next xs n at at' (inside e) b =
    by_cases (ltb at (length xs))
    (λ t. inside (b ∙ behind_next xs at (ltb-true at (length xs) t) ∙ ap (next_place xs) e ∙ sym (place-suc xs n)))
    (λ f. let l = ltb-false at (length xs) f in
    let s = place-suc xs n in
    let g = behind_past xs at l in
    past (omega arith) (omega arith))
walked_next xs n at at' (past h i) b =
    let s = place-suc xs n in
    let g = behind_past xs at h in
    past (omega arith) (omega arith)

-- the record that it meets there
walked_record : (xs : List ℕ) (n at : ℕ) → Walked xs n at → record_at xs at ≡ record_at xs (place xs n)
walked_record xs n at (inside e) = ap (record_at xs) e
walked_record xs n at (past h i) = record_at_past xs at h ∙ sym (record_at_past xs (place xs n) i)

walked_get : (xs : List ℕ) (n at : ℕ) → n < count xs → Walked xs n at → get_or (records xs) n [] ≡ record_at xs at
walked_get xs n at h w = records-at xs n h ∙ sym (walked_record xs n at w)

pub walked_nth : (xs : List ℕ) (n at : ℕ) → n < count xs → Walked xs n at → nth (records xs) (n + 1) ≡ record_at xs at
unfolding nth
walked_nth xs n at h w = rw add-one (walked_get xs n at h w)

-- the same of the first m records
pub records-length-take : (xs : List ℕ) (m : ℕ) → length (take m (records xs)) ≡ min (count xs) m
records-length-take xs m = let l = records-length xs in length-take m (records xs) ∙ omega arith

pub walked_nth-take : (xs : List ℕ) (m n at : ℕ) → n < min (count xs) m → Walked xs n at → nth (take m (records xs)) (n + 1) ≡ record_at xs at
unfolding nth
walked_nth-take xs m n at h w = rw add-one (get_or-take m (records xs) n [] (omega arith) ∙ walked_get xs n at (omega arith) w)

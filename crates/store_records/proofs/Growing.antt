-- A body whose list of records has gone on: each record of before is still there, in the same place, with the same length and the same bytes.
-- How the body came to be so does not matter: an append, a move to another room, or several of them.
-- Read before: specs/Body.antt, Bodies. Exports: `length_at`; `count_grows`, `record_kept`, `length-kept`, `place_kept`.
use Prim.Native.Nat.{ℕ, zero, suc, ◌+◌, ◌≤◌, ◌<◌}
use mathlib.Core.Path.{◌≡◌, refl, sym, ap, ap₂, ◌∙◌}
use mathlib.Core.Bool.{true}
use mathlib.Core.List.{List, [], ◌++◌}
use native.Mathlib.Omega.{arith}
use lib.ListN.{length, get_or, length-append, get_or-append}
use Rattle.base.proofs.Parts.{length_part}
use Rattle.store_records.specs.Little.{le16}
use Rattle.store_records.specs.Body.{count, place, records, body_ok}
use Rattle.store_records.proofs.Bodies.{ok_at_facts, ok_to-at, body_ok_facts, records-length, records-at}

module _ (L M : ℕ) where
  -- the length before a record is the record's length
  pub length_at : (xs : List ℕ) (i : ℕ) → body_ok L M xs ≡ true → i < count xs → le16 xs (place xs i) ≡ length (get_or (records xs) i [])
  length_at xs i c h =
      let b = body_ok_facts L M xs c in
      let o = ok_at_facts L xs (place xs i) (ok_to-at L xs i (count xs) h b.all) in
      sym (ap length (records-at xs i h) ∙ length_part xs (place xs i + 2) (le16 xs (place xs i)) o.whole)

  -- the body `later` has the records of xs, and perhaps more behind them
  module _ (xs later : List ℕ) (more : List (List ℕ)) (c : body_ok L M xs ≡ true) (d : body_ok L M later ≡ true) (e : records later ≡ records xs ++ more) where
    pub count_grows : count later ≡ count xs + length more
    count_grows =
        let k = ap length e ∙ length-append (records xs) more in
        omega (arith, records-length xs, records-length later)

    pub record_kept : (i : ℕ) → i < count xs → get_or (records later) i [] ≡ get_or (records xs) i []
    record_kept i h = ap (λ (rs : List (List ℕ)). get_or rs i []) e ∙ get_or-append (records xs) more [] i (omega (arith, records-length xs))

    pub length-kept : (i : ℕ) → i < count xs → le16 later (place later i) ≡ le16 xs (place xs i)
    length-kept i h = let g = count_grows in length_at later i d (omega arith) ∙ ap length (record_kept i h) ∙ sym (length_at xs i c h)

    pub place_kept : (i : ℕ) → i ≤ count xs → place later i ≡ place xs i
    unfolding place
    place_kept zero h = refl
    place_kept (suc i) h = ap₂ (λ (p l : ℕ). p + 2 + l) (place_kept i (omega arith)) (length-kept i (omega arith))

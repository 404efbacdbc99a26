-- What an append leaves: the old records with the new one behind them, in a body that is still well formed.
-- Read before: specs/Body.antt, Bodies. Exports: `Appendable`, `appendable-…` (whether a body can take a record), `append_accepted`,
-- `append-refused`, `length-record_bytes`, `appended-…` (the body afterwards), `…-agree` (bodies that agree up to a place have the same records there).
use Prim.Native.Nat.{ℕ, zero, suc, ◌+◌, ◌/◌, ◌%◌, ◌≤◌, ◌<◌}
use mathlib.Core.Path.{◌≡◌, refl, sym, ap, ap₂, ◌∙◌}
use mathlib.Core.Bool.{Bool, true, false, ◌&&◌}
use mathlib.Core.List.{List, [], ◌∷◌, ◌++◌}
use native.Mathlib.Omega.{arith}
use native.Mathlib.Numerals.{add-one}
use native.Mathlib.Nat.{add-zero}
use lib.ListN.{length, take, drop, set, length-set, length-append}
use lib.Seq.{sets, length-sets, get_or-set_other, drop-set-lt}
use lib.Dec.{leb}
use borrow.Author.Tests.{le-leb, lt-leb, leb-true, lt-ltb, ltb-true}
use Rattle.base.specs.Choice.{all_of}
use Rattle.base.specs.Bytes.{part}
use Rattle.base.proofs.Cases.{if_else_ind, all_of_facts, all_of_accepted}
use Rattle.base.proofs.Parts.{Agree, part-within, drop-part}
use Rattle.base.proofs.Runs.{get_d_sets_before, part-sets}
use Rattle.store_records.specs.Little.{le16, bytes16}
use Rattle.store_records.specs.Body.{count, next_place, place, record_at, firsts, records, used, append_fits, ok_at, ok_to, body_ok, appendable, record_bytes, appended, append}
use Rattle.store_records.proofs.Numbers.{le16_agree, le16-part, le16-bytes, le16-set, length-bytes16}
use Rattle.store_records.proofs.Bodies.{place-suc, place_lt, place-low, ok_at_accepted, ok_to-suc, body_ok_accepted, body_ok_facts}

-- ---- whether a body can take a record

module _ (xs : List ℕ) (n : ℕ) where
  pub record Appendable : Type 0 where
    pub room : used xs + 2 + n ≤ length xs
    pub short : n < 65536
    pub few : count xs + 1 < 65536

  pub appendable_facts : appendable xs n ≡ true → Appendable
  unfolding appendable append_fits
  appendable_facts e = let h = all_of_facts _ e in record { room = leb-true _ _ h.0; short = ltb-true _ _ h.1.0; few = ltb-true _ _ h.1.1.0 }

  pub appendable_accepted : used xs + 2 + n ≤ length xs → n < 65536 → count xs + 1 < 65536 → appendable xs n ≡ true
  unfolding appendable append_fits
  appendable_accepted h i j = all_of_accepted _ (le-leb _ _ h, (lt-ltb _ _ i, (lt-ltb _ _ j, tt)))

  pub appendable_full : (at : ℕ) → at ≡ used xs → leb (at + 2 + n) (length xs) ≡ false → appendable xs n ≡ false
  unfolding appendable append_fits all_of
  appendable_full at e f = simp (← e, f)

-- what an append leaves: where the body can take the record, and where not
pub append_accepted : (xs d : List ℕ) → appendable xs (length d) ≡ true → append xs d ≡ appended xs d
unfolding append
append_accepted xs d t = simp t

pub append-refused : (xs d : List ℕ) → appendable xs (length d) ≡ false → append xs d ≡ xs
unfolding append
append-refused xs d t = simp t

pub length-record_bytes : (d : List ℕ) → length (record_bytes d) ≡ 2 + length d
unfolding record_bytes
length-record_bytes d = length-append (bytes16 (length d)) d ∙ ap (λ (k : ℕ). k + length d) (length-bytes16 (length d))

-- ---- bodies that both hold the place n and agree up to it

module _ (xs ys : List ℕ) (n : ℕ) (here : place xs n ≤ length xs) (there : place xs n ≤ length ys) (agree : Agree xs ys 2 (place xs n)) where
  -- the length field of record k lies in that stretch
  len-agree : (k : ℕ) → k < n → le16 ys (place xs k) ≡ le16 xs (place xs k)
  len-agree k h =
      let l = place_lt xs k n h in
      let b = place-low xs k in
      le16_agree xs ys 2 (place xs n) (place xs k) agree (omega arith) (omega arith)

  pub place_agree : (k : ℕ) → k ≤ n → place ys k ≡ place xs k
  unfolding place
  place_agree zero h = refl
  place_agree (suc k) h =
      ap (next_place ys) (place_agree k (omega arith)) ∙ ap (λ (m : ℕ). place xs k + 2 + m) (len-agree k (omega arith))

  pub le16-at : (k : ℕ) → k < n → le16 ys (place ys k) ≡ le16 xs (place xs k)
  le16-at k h = ap (le16 ys) (place_agree k (omega arith)) ∙ len-agree k h

  pub record_agree : (k : ℕ) → k < n → record_at ys (place ys k) ≡ record_at xs (place xs k)
  record_agree k h =
      let l = place_lt xs k n h in
      let b = place-low xs k in
      ap₂ (λ (p m : ℕ). part ys (p + 2) m) (place_agree k (omega arith)) (le16-at k h)
      ∙ part-within xs ys 2 (place xs n) (place xs k + 2) (le16 xs (place xs k)) here there agree (omega arith) (omega arith)

  pub firsts_agree : (k : ℕ) → k ≤ n → firsts ys k ≡ firsts xs k
  unfolding firsts
  firsts_agree zero h = refl
  firsts_agree (suc k) h =
      ap₂ (λ (l : List (List ℕ)) (r : List ℕ). l ++ (r ∷ [])) (firsts_agree k (omega arith)) (record_agree k (omega arith))

  -- a record that is whole in one is so in the other
  pub ok_at_agree : (L k : ℕ) → k < n → ok_at L ys (place ys k) ≡ ok_at L xs (place xs k)
  unfolding ok_at
  ok_at_agree L k h =
      let l = place_lt xs k n h in
      rw (le16-at k h, place_agree k (omega arith), le-leb (next_place xs (place xs k)) (length ys) (omega arith), le-leb (next_place xs (place xs k)) (length xs) (omega arith))

  pub ok_to_agree : (L k : ℕ) → k ≤ n → ok_to L ys k ≡ ok_to L xs k
  unfolding ok_to
  ok_to_agree L zero h = refl
  ok_to_agree L (suc k) h = ap₂ (λ (a b : Bool). a && b) (ok_to_agree L k (omega arith)) (ok_at_agree L k (omega arith))

-- ---- the body after an append

module _ (xs d : List ℕ) (t : appendable xs (length d) ≡ true) where
  facts : Appendable xs (length d)
  facts = appendable_facts xs (length d) t

  low : 2 ≤ used xs
  unfolding used
  low = place-low xs (count xs)

  pub appended-length : length (appended xs d) ≡ length xs
  unfolding appended
  appended-length = simp (length-set, length-sets)

  -- nothing before the free room changes but the count
  pub appended_agree : Agree xs (appended xs d) 2 (used xs)
  unfolding appended Agree
  appended_agree p h k =
      let l : List ℕ = sets xs (used xs) (record_bytes d) in
      let m : List ℕ = set l 1 ((count xs + 1) / 256 % 256) in
      get_or-set_other m 0 p ((count xs + 1) % 256) 0 (λ e. omega arith)
      ∙ get_or-set_other l 1 p ((count xs + 1) / 256 % 256) 0 (λ e. omega arith)
      ∙ get_d_sets_before xs (used xs) (record_bytes d) p k

  pub appended-count : count (appended xs d) ≡ count xs + 1
  unfolding appended count
  appended-count =
      let f = facts in
      let l = length-sets xs (used xs) (record_bytes d) in
      le16-set (sets xs (used xs) (record_bytes d)) (le16 xs 0 + 1) (omega (arith, low, f.room)) f.few

  -- the run that was written
  pub appended-run : part (appended xs d) (used xs) (2 + length d) ≡ record_bytes d
  unfolding appended
  appended-run =
      let e = length-record_bytes d in
      ap (take (2 + length d)) (drop-set-lt (used xs) _ 0 _ (omega (arith, low)) ∙ drop-set-lt (used xs) _ 1 _ (omega (arith, low)))
      ∙ ap (λ (k : ℕ). part (sets xs (used xs) (record_bytes d)) (used xs) k) (sym e)
      ∙ part-sets xs (used xs) (record_bytes d) (let f = facts in omega (arith, f.room))

  pub appended-le16 : le16 (appended xs d) (used xs) ≡ length d
  unfolding record_bytes
  appended-le16 =
      ap (le16 (appended xs d)) (sym (add-zero (used xs)))
      ∙ sym (le16-part (appended xs d) (used xs) (2 + length d) 0 (omega arith))
      ∙ ap (λ (l : List ℕ). le16 l 0) appended-run
      ∙ le16-bytes (length d) d facts.short

  pub appended_record : record_at (appended xs d) (used xs) ≡ d
  unfolding record_bytes bytes16
  appended_record =
      ap (part (appended xs d) (used xs + 2)) appended-le16
      ∙ sym (drop-part (appended xs d) (used xs) 2 (length d))
      ∙ ap (drop 2) appended-run

  -- both bodies hold all that is used
  held-before : used xs ≤ length xs
  held-before = let f = facts in omega (arith, f.room)

  held_after : used xs ≤ length (appended xs d)
  held_after = let l = appended-length in omega (arith, held-before)

  -- places stay
  pub appended-place : (k : ℕ) → k ≤ count xs → place (appended xs d) k ≡ place xs k
  unfolding used
  appended-place = place_agree xs (appended xs d) (count xs) held-before held_after appended_agree

  last-place : place (appended xs d) (count xs) ≡ used xs
  unfolding used
  last-place = appended-place (count xs) (omega arith)

  -- the records are the old ones with the new one behind them
  pub appended-records : records (appended xs d) ≡ records xs ++ (d ∷ [])
  unfolding records firsts used
  appended-records =
      let ys : List ℕ = appended xs d in
      let n : ℕ = count xs in
      ap (firsts ys) (appended-count ∙ add-one n)
      ∙ ap₂ (λ (l : List (List ℕ)) (r : List ℕ). l ++ (r ∷ [])) (firsts_agree xs ys n held-before held_after appended_agree n (omega arith)) (ap (record_at ys) last-place ∙ appended_record)

  pub appended-used : used (appended xs d) ≡ used xs + 2 + length d
  unfolding used
  appended-used =
      let ys : List ℕ = appended xs d in
      ap (place ys) appended-count ∙ place-suc ys (count xs) ∙ ap₂ (λ (a b : ℕ). a + 2 + b) last-place (ap (le16 ys) last-place ∙ appended-le16)

  -- and the body stays well formed
  pub appended-well_formed : (L M : ℕ) → body_ok L M xs ≡ true → count xs < M → 1 ≤ length d → length d ≤ L → body_ok L M (appended xs d) ≡ true
  unfolding used
  appended-well_formed L M e few some short =
      let ys : List ℕ = appended xs d in
      let n : ℕ = count xs in
      let f = body_ok_facts L M xs e in
      let room = facts.room in
      let p : place ys n ≡ used xs = last-place in
      let w : le16 ys (used xs) ≡ length d = appended-le16 in
      let l : length ys ≡ length xs = appended-length in
      let c : count ys ≡ n + 1 = appended-count in
      let okd : ok_to L ys n ≡ true = ok_to_agree xs ys n held-before held_after appended_agree L n (omega arith) ∙ f.all in
      let last : ok_at L ys (place ys n) ≡ true = rw p (ok_at_accepted L ys (used xs) (omega arith) (omega arith) (omega arith)) in
      body_ok_accepted L M ys (omega (arith, f.long)) (omega arith) (rw c (ok_to-suc L ys n okd last))

-- ---- an append, whether or not the body could take it

pub append-length : (xs d : List ℕ) → length (append xs d) ≡ length xs
unfolding append
append-length xs d = if_else_ind (λ (l : List ℕ). length l ≡ length xs) (appendable xs (length d)) (λ t. appended-length xs d t) (λ t. refl)

pub appendable_empty : (n : ℕ) → appendable [] n ≡ false
appendable_empty n = appendable_full [] n (used []) refl (lt-leb (used [] + 2 + n) 0 (omega arith))

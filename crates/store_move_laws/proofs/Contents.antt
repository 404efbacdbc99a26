-- The content of a body in another room, with zeros behind it: it reads there as it does in the body, and that body is right again.
-- Read before: store_move's specs/Moving.antt. Exports: `kept-…` (what stays), `refit`, `refill` (filled rooms filled again), `zero-records`,
-- `zero-content`, `zeros-well_formed` (empty rooms).
use Prim.Native.Nat.{ℕ, zero, suc, ◌+◌, ◌-◌, ◌≤◌, min}
use mathlib.Core.Path.{◌≡◌, refl, sym, ap, ◌∙◌}
use mathlib.Core.Bool.{true, false}
use mathlib.Core.List.{List, [], ◌∷◌, ◌++◌, append_assoc}
use native.Mathlib.Omega.{arith}
use lib.ListN.{length, take, length-append, length-replicate, length-take, get_or-append}
use lib.Seq.{get_or-take, length-take-le}
use borrow.Author.Tests.{le-leb}
use Rattle.base.specs.Bytes.{part}
use Rattle.base.proofs.Cases.{by_cases, false-true}
use Rattle.base.proofs.Parts.{Agree, part-within}
use Rattle.store_records.specs.Body.{count, place, firsts, records, used, body_ok}
use Rattle.store_records.proofs.Numbers.{le16_agree, le32_agree}
use Rattle.store_records.proofs.Bodies.{place-low, body_ok_accepted, body_ok_facts}
use Rattle.store_records.proofs.Appending.{place_agree, firsts_agree, ok_to_agree}
use Rattle.store_kinds.specs.Biometrics.{state, written, room, written_bytes, largest_room, bio_ok}
use Rattle.store_kinds.specs.Rules.{rule_of, is_biometrics, kind_ok_by, kind_ok}
use Rattle.store_kinds.specs.declared.rules.Key.TheVariants.{Kind}
use Rattle.store_kinds.proofs.Updating.{bio_ok_facts, bio_ok_accepted}
use Rattle.store_image.proofs.Laws.{body-used, biometrics-kind}
use Rattle.store_move_plan.specs.Rooms.{zeros, filled}
use Rattle.store_move_plan.proofs.Rows.{filled-length}
use Rattle.store_move_plan.proofs.Empty.{empty_count, empty_written, empty_records, empty_biometrics}
use Rattle.store_move.specs.Moving.{content_length}
use Rattle.std.specs.Prelude.{Option, Some, None}
use Rattle.store_kinds.specs.declared.rules.Rule.{Rule}

-- ---- the first b bytes of a body in a room of n bytes

abbrev first : ℕ → List ℕ → ℕ → List ℕ
first b xs n = filled n (take b xs)

module _ (b : ℕ) (xs : List ℕ) (n : ℕ) (inside : b ≤ length xs) (fit : length (take b xs) ≤ n) where
  -- that room holds those bytes, and they stand where they stood
  first-length : length (first b xs n) ≡ n
  first-length = filled-length n (take b xs) fit

  first-within : b ≤ length (first b xs n)
  first-within = omega (arith, first-length, length-take-le b xs inside)

  first-agree : Agree xs (first b xs n) 0 b
  unfolding filled Agree
  first-agree p h k =
      let l = length-take-le b xs inside in
      get_or-append (take b xs) (zeros (n - length (take b xs))) 0 p (omega arith) ∙ get_or-take b xs p 0 k

-- ---- zeros behind

take-zeros : (j p : ℕ) → take j (zeros p) ≡ zeros (min j p)
take-zeros zero p = let e : 0 ≡ min 0 p = omega arith in ap zeros e
take-zeros (suc j) zero = let e : 0 ≡ min (suc j) 0 = omega arith in ap zeros e
take-zeros (suc j) (suc p) = let e : suc (min j p) ≡ min (suc j) (suc p) = omega arith in ap (λ (l : List ℕ). 0 ∷ l) (take-zeros j p) ∙ ap zeros e

zeros-append : (a b : ℕ) → zeros a ++ zeros b ≡ zeros (a + b)
zeros-append zero b = let e : b ≡ 0 + b = omega arith in ap zeros e
zeros-append (suc a) b = let e : suc (a + b) ≡ suc a + b = omega arith in ap (λ (l : List ℕ). 0 ∷ l) (zeros-append a b) ∙ ap zeros e

take_behind : (c : List ℕ) (m p : ℕ) → length c ≤ m → take m (c ++ zeros p) ≡ c ++ zeros (min (m - length c) p)
take_behind [] m p h = let e : min m p ≡ min (m - 0) p = omega arith in take-zeros m p ∙ ap zeros e
take_behind (x ∷ c) zero p h = absurd (omega arith)
take_behind (x ∷ c) (suc m) p h =
    let e : min (m - length c) p ≡ min (suc m - suc (length c)) p = omega arith in
    ap (λ (l : List ℕ). x ∷ l) (take_behind c m p (omega arith)) ∙ ap (λ (q : ℕ). x ∷ (c ++ zeros q)) e

-- the first m bytes of a filled room, where they hold all that was put there, fill another room as that does
pub refit : (c : List ℕ) (m n r : ℕ) → length c ≤ m → length c ≤ n → length (take m (filled n c)) ≤ r → filled r (take m (filled n c)) ≡ filled r c
unfolding filled
refit c m n r h k i =
    let p : ℕ = n - length c in
    let q : ℕ = min (m - length c) p in
    let t : take m (c ++ zeros p) ≡ c ++ zeros q = take_behind c m p h in
    let l : length (c ++ zeros q) ≡ length c + length (zeros q) = length-append c (zeros q) in
    let z : length (zeros q) ≡ q = length-replicate q 0 in
    let u : length (take m (c ++ zeros p)) ≡ length (c ++ zeros q) = ap length t in
    let e : q + (r - length (c ++ zeros q)) ≡ r - length c = omega (arith, l, z, u, i) in
    ap (λ (x : List ℕ). x ++ zeros (r - length x)) t
    ∙ append_assoc c (zeros q) (zeros (r - length (c ++ zeros q)))
    ∙ ap (λ (x : List ℕ). c ++ x) (zeros-append q (r - length (c ++ zeros q)) ∙ ap zeros e)

pub refill : (c : List ℕ) (m n : ℕ) → length c ≤ m → length c ≤ n → filled n (take m (filled n c)) ≡ filled n c
refill c m n h k = refit c m n n h k (omega (arith, length-take m (filled n c), filled-length n c k))

-- ---- of a record body, the bytes used

module _ (L M : ℕ) (xs : List ℕ) (n : ℕ) (o : body_ok L M xs ≡ true) (fit : length (take (used xs) xs) ≤ n) where
  -- the count and every record lie in the bytes used, which both bodies hold
  inside : used xs ≤ length xs
  inside = body-used L M xs o

  within : used xs ≤ length (first (used xs) xs n)
  within = first-within (used xs) xs n inside fit

  low : 2 ≤ used xs
  unfolding used
  low = place-low xs (count xs)

  agree : Agree xs (first (used xs) xs n) 0 (used xs)
  agree = first-agree (used xs) xs n inside fit

  behind-count : Agree xs (first (used xs) xs n) 2 (used xs)
  unfolding Agree
  behind-count p h k = agree p (omega arith) k

  -- so both have the same records, and are right together
  used-count : count (first (used xs) xs n) ≡ count xs
  unfolding count
  used-count = le16_agree xs (first (used xs) xs n) 0 (used xs) 0 agree (omega arith) low

  used-records : records (first (used xs) xs n) ≡ records xs
  unfolding records used
  used-records =
      ap (firsts (first (used xs) xs n)) used-count
      ∙ firsts_agree xs (first (used xs) xs n) (count xs) inside within behind-count (count xs) (omega arith)

  used-same : used (first (used xs) xs n) ≡ used xs
  unfolding used
  used-same =
      ap (place (first (used xs) xs n)) used-count
      ∙ place_agree xs (first (used xs) xs n) (count xs) inside within behind-count (count xs) (omega arith)

  used-well_formed : body_ok L M (first (used xs) xs n) ≡ true
  unfolding used
  used-well_formed =
      let f = body_ok_facts L M xs o in
      let c = used-count in
      body_ok_accepted L M (first (used xs) xs n) (omega (arith, low, within)) (omega (arith, f.few))
      (rw c (ok_to_agree xs (first (used xs) xs n) (count xs) inside within behind-count L (count xs) (omega arith) ∙ f.all))

-- ---- of a biometrics body, the state, w and the bytes written

module _ (xs : List ℕ) (n : ℕ) (o : bio_ok xs ≡ true) (fit : length (take (5 + written xs) xs) ≤ n) where
  -- state, w and each byte written lie before 5 + w, which both bodies hold
  all-inside : 5 + written xs ≤ length xs
  unfolding room
  all-inside = let f = bio_ok_facts xs o in omega (arith, f.long, f.within)

  all_within : 5 + written xs ≤ length (first (5 + written xs) xs n)
  all_within = first-within (5 + written xs) xs n all-inside fit

  all-agree : Agree xs (first (5 + written xs) xs n) 0 (5 + written xs)
  all-agree = first-agree (5 + written xs) xs n all-inside fit

  all-state : state (first (5 + written xs) xs n) ≡ state xs
  unfolding state Agree
  all-state = all-agree 0 (omega arith) (omega arith)

  all-written : written (first (5 + written xs) xs n) ≡ written xs
  unfolding written
  all-written = le32_agree xs (first (5 + written xs) xs n) 0 (5 + written xs) 1 all-agree (omega arith) (omega arith)

  all-content : written_bytes (first (5 + written xs) xs n) ≡ written_bytes xs
  unfolding written_bytes
  all-content =
      ap (part (first (5 + written xs) xs n) 5) all-written
      ∙ part-within xs (first (5 + written xs) xs n) 0 (5 + written xs) 5 (written xs) all-inside all_within all-agree (omega arith) (omega arith)

  -- where the room is not too large for a biometrics file
  all-well_formed : bio_ok (zeros n) ≡ true → bio_ok (first (5 + written xs) xs n) ≡ true
  unfolding room
  all-well_formed z =
      let f = bio_ok_facts xs o in
      let l = first-length (5 + written xs) xs n all-inside fit in
      let m : length (zeros n) ≡ n = length-replicate n 0 in
      bio_ok_accepted (first (5 + written xs) xs n)
      (record {
        long = omega (arith, all_within);
        known = omega (arith, all-state, f.known);
        small = omega (arith, (bio_ok_facts (zeros n) z).small);
        within = omega (arith, all_within, all-written);
      })

-- ---- of a body that is right for its kind, what is busy

-- a body that is right and not one of biometrics is a record body, and so is each that is right for its kind
record_kind : (k : ℕ) (xs : List ℕ) → is_biometrics k ≡ false → kind_ok k xs ≡ true → (L : ℕ) × (M : ℕ) × ((ys : List ℕ) → kind_ok k ys ≡ body_ok L M ys)
unfolding kind_ok
record_kind k xs b = go (rule_of (Kind k)) refl
  where
    go : (f : Option Rule) → rule_of (Kind k) ≡ f → kind_ok_by f k xs ≡ true → (L : ℕ) × (M : ℕ) × ((ys : List ℕ) → kind_ok_by (rule_of (Kind k)) k ys ≡ body_ok L M ys)
    go (Some r) e o = (r.longest, r.most, λ ys. ap (λ (f : Option Rule). kind_ok_by f k ys) e)
    go None e o = false-true (rw b at o)

module _ (k : ℕ) (xs : List ℕ) (n : ℕ) (o : kind_ok k xs ≡ true) (fit : length (take (content_length k xs) xs) ≤ n) where
  -- the bytes used
  module _ (b : is_biometrics k ≡ false) where
    is-used : content_length k xs ≡ used xs
    unfolding content_length
    is-used = rw b

    is-records : (L : ℕ) × (M : ℕ) × ((ys : List ℕ) → kind_ok k ys ≡ body_ok L M ys)
    is-records = record_kind k xs b o

    records-well_formed : body_ok is-records.0 is-records.1 xs ≡ true
    records-well_formed = sym (is-records.2 xs) ∙ o

    used-fit : length (take (used xs) xs) ≤ n
    used-fit = rw is-used at fit

    pub kept-records : records (filled n (take (content_length k xs) xs)) ≡ records xs
    kept-records = rw is-used (used-records is-records.0 is-records.1 xs n records-well_formed used-fit)

    kept-used : kind_ok k (filled n (take (content_length k xs) xs)) ≡ true
    kept-used = rw is-used (is-records.2 (first (used xs) xs n) ∙ used-well_formed is-records.0 is-records.1 xs n records-well_formed used-fit)

  -- state, w and the bytes written
  module _ (b : is_biometrics k ≡ true) where
    is_all : content_length k xs ≡ 5 + written xs
    unfolding content_length
    is_all = rw b

    bio : bio_ok xs ≡ true
    bio = sym (biometrics-kind k xs b) ∙ o

    all_fit : length (take (5 + written xs) xs) ≤ n
    all_fit = rw is_all at fit

    pub kept-state : state (filled n (take (content_length k xs) xs)) ≡ state xs
    kept-state = rw is_all (all-state xs n bio all_fit)

    pub kept-written : written (filled n (take (content_length k xs) xs)) ≡ written xs
    kept-written = rw is_all (all-written xs n bio all_fit)

    pub kept-content : written_bytes (filled n (take (content_length k xs) xs)) ≡ written_bytes xs
    kept-content = rw is_all (all-content xs n bio all_fit)

    kept-all : kind_ok k (zeros n) ≡ true → kind_ok k (filled n (take (content_length k xs) xs)) ≡ true
    kept-all z =
        rw is_all (biometrics-kind k (first (5 + written xs) xs n) b ∙ all-well_formed xs n bio all_fit (sym (biometrics-kind k (zeros n) b) ∙ z))

  -- as much is busy in the new body
  pub kept_busy : content_length k (filled n (take (content_length k xs) xs)) ≡ content_length k xs
  kept_busy =
      by_cases (is_biometrics k)
      (λ b. rw (is_all b) (unfold content_length in rw b (ap (λ (w : ℕ). 5 + w) (all-written xs n (bio b) (all_fit b)))))
      (λ b. rw (is-used b) (unfold content_length in rw b (used-same (is-records b).0 (is-records b).1 xs n (records-well_formed b) (used-fit b))))

  -- the new body is right where an empty one of its length is. (The room may be too large for a biometrics file.)
  pub kept-well_formed : kind_ok k (zeros n) ≡ true → kind_ok k (filled n (take (content_length k xs) xs)) ≡ true
  kept-well_formed z = by_cases (is_biometrics k) (λ b. kept-all b z) kept-used

-- ---- a room with nothing in it

pub zero-records : (n : ℕ) → records (zeros n) ≡ []
unfolding records firsts
zero-records n = ap (firsts (zeros n)) (empty_count n)

pub zero-content : (n : ℕ) → written_bytes (zeros n) ≡ []
unfolding written_bytes
zero-content n = ap (part (zeros n) 5) (empty_written n)

-- it is right if it held a body that was, since that asks no more of an empty one than its length
pub zeros-well_formed : (k : ℕ) (xs : List ℕ) → kind_ok k xs ≡ true → kind_ok k (zeros (length xs)) ≡ true
unfolding room
zeros-well_formed k xs o =
    by_cases (is_biometrics k)
    (λ b. let f = bio_ok_facts xs (sym (biometrics-kind k xs b) ∙ o) in
    biometrics-kind k (zeros (length xs)) b ∙ empty_biometrics (length xs) f.long ∙ le-leb (length xs - 5) largest_room f.small)
    (λ b. let r = record_kind k xs b o in
    r.2 (zeros (length xs)) ∙ empty_records r.0 r.1 (length xs) ∙ le-leb _ _ (body_ok_facts r.0 r.1 xs (sym (r.2 xs) ∙ o)).long)

-- What a cut leaves of a body: behind every store but the last the records of before, in a body that is well formed; behind the last one the body
-- after the whole command. Read before: specs/Stores.antt, Making. Exports: `append-made`, `activate-made` (all stores are the command), `cut-…` (what
-- stays behind a cut of an append), `none_made` (no store is made), `stores_empty` (a body that is not there), `length-…-stores`, `…-stores_few`,
-- `stores_small` (how many there are).
use Prim.Native.Nat.{ℕ, zero, suc, ◌+◌, ◌-◌, ◌/◌, ◌%◌, ◌≤◌, ◌<◌}
use mathlib.Core.Path.{◌≡◌, refl, sym, ap, ap₂, ◌∙◌}
use mathlib.Core.Bool.{true}
use mathlib.Core.List.{List, [], ◌∷◌, ◌++◌}
use native.Mathlib.Omega.{arith}
use lib.ListN.{length, get_or, take, set}
use lib.Seq.{sets, length-sets, get_or-set_other, get_or-set_same, take_all}
use lib.Dec.{eqb}
use borrow.Author.Tests.{eqb-true, eqb-false}
use Rattle.base.proofs.Cases.{by_cases, if_else_ind}
use Rattle.base.proofs.Parts.{Agree}
use Rattle.base.proofs.Runs.{get_d_sets_before}
use Rattle.store_records.specs.Little.{le16}
use Rattle.store_records.specs.Body.{count, place, firsts, records, used, ok_to, body_ok, appendable, record_bytes, appended, append}
use Rattle.store_records.proofs.Numbers.{le16_agree}
use Rattle.store_records.proofs.Bodies.{place-low, body_ok_accepted, body_ok_facts}
use Rattle.store_records.proofs.Appending.{appendable_facts, appendable_empty, append_accepted, append-refused, length-record_bytes, place_agree, firsts_agree, ok_to_agree}
use Rattle.store_kinds.specs.Biometrics.{bio_ok, activate}
use Rattle.store_kinds.proofs.Updating.{bio_ok-short, activate_accepted, activate-refused}
use Rattle.store_cut.specs.Stores.{Store, at, run, record_stores, stores, made, make_stores}
use Rattle.store_cut.specs.declared.Writing.{Writing}
use Rattle.store_cut.specs.declared.Writing.TheVariants.{Record, State}
use Rattle.store_cut.proofs.Making.{made-behind, made-run, length_run, length-record_stores, make_stores-length}

-- ---- a body that agrees with another up to its free room has the same records

module _ (xs ys : List ℕ) (len : length ys ≡ length xs) (held : used xs ≤ length xs) (agree : Agree xs ys 0 (used xs)) where
  low : 2 ≤ used xs
  unfolding used
  low = place-low xs (count xs)

  later : Agree xs ys 2 (used xs)
  unfolding Agree
  later p h k = agree p (omega arith) k

  held-too : used xs ≤ length ys
  held-too = omega (arith, held)

  same_count : count ys ≡ count xs
  unfolding count
  same_count = le16_agree xs ys 0 (used xs) 0 agree (omega arith) (omega (arith, low))

  same-used : used ys ≡ used xs
  unfolding used
  same-used = ap (place ys) same_count ∙ place_agree xs ys (count xs) held held-too later (count xs) (omega arith)

  same-records : records ys ≡ records xs
  unfolding records used
  same-records = ap (firsts ys) same_count ∙ firsts_agree xs ys (count xs) held held-too later (count xs) (omega arith)

  same-well_formed : (L M : ℕ) → body_ok L M xs ≡ true → body_ok L M ys ≡ true
  unfolding used
  same-well_formed L M e =
      let f = body_ok_facts L M xs e in
      body_ok_accepted L M ys (omega (arith, len, f.long)) (omega (arith, same_count, f.few))
      (ap (ok_to L ys) same_count ∙ ok_to_agree xs ys (count xs) held held-too later L (count xs) (omega arith) ∙ f.all)

-- ---- all stores are the command

all_made : (k : ℕ) (w : Writing) (xs d : List ℕ) → length (stores w xs d) ≤ k → make_stores k w xs d ≡ made (stores w xs d) xs
unfolding make_stores
all_made k w xs d h = ap (λ (ss : List Store). made ss xs) (take_all k (stores w xs d) h)

-- the stores of a record, made: the record, and then the count
record_made : (xs d : List ℕ) → made (record_stores xs d) xs ≡ appended xs d
unfolding record_stores made appended
record_made xs d =
    let k : ℕ = length d + 4 in
    let rs : List Store = run (used xs) (record_bytes d) in
    let ts : List Store = at 1 ((count xs + 1) / 256 % 256) ∷ at 0 ((count xs + 1) % 256) ∷ [] in
    let l : length (record_bytes d) ≤ k = omega (arith, length-record_bytes d) in
    let j : k - length rs ≡ 2 = omega (arith, length_run (used xs) (record_bytes d), length-record_bytes d) in
    sym (ap (λ (ss : List Store). made ss xs) (take_all k (rs ++ ts) (omega (arith, length-record_stores xs d))))
    ∙ made-behind k rs ts xs
    ∙ ap₂ (λ (n : ℕ) (ys : List ℕ). made (take n ts) ys) j (made-run k (used xs) (record_bytes d) xs ∙ ap (sets xs (used xs)) (take_all k (record_bytes d) l))

pub append-made : (k : ℕ) (xs d : List ℕ) → length (stores Record xs d) ≤ k → make_stores k Record xs d ≡ append xs d
unfolding stores made
append-made k xs d h =
    all_made k Record xs d h
    ∙ by_cases (appendable xs (length d))
    (λ t. simp t (record_made xs d) ∙ sym (append_accepted xs d t))
    (λ t. simp t (sym (append-refused xs d t)))

pub activate-made : (k : ℕ) (xs d : List ℕ) → length (stores State xs d) ≤ k → make_stores k State xs d ≡ activate xs
unfolding stores made
activate-made k xs d h =
    all_made k State xs d h
    ∙ by_cases (bio_ok xs)
    (λ t. simp t (sym (activate_accepted xs t)))
    (λ t. simp t (sym (activate-refused xs t)))

-- ---- a cut of an append: not all of its stores are made. A file has at most 254 records, so the count's high byte is 0 and stays

module _ (xs d : List ℕ) (t : appendable xs (length d) ≡ true) (few : count xs < 255) (k : ℕ) (less : k < length d + 4) where
  abbrev cut : List ℕ
  cut = make_stores k Record xs d

  -- the bytes of the record that are stored
  begun : List ℕ
  begun = sets xs (used xs) (take k (record_bytes d))

  abbrev high : ℕ
  high = (count xs + 1) / 256 % 256

  -- the count's high byte is stored or not
  cut-is : (j : ℕ) → k - (2 + length d) ≡ j → cut ≡ made (take j (at 1 high ∷ at 0 ((count xs + 1) % 256) ∷ [])) begun
  unfolding make_stores stores record_stores begun
  cut-is j e =
      let rs : List Store = run (used xs) (record_bytes d) in
      let f : k - length rs ≡ j = omega (arith, length_run (used xs) (record_bytes d), length-record_bytes d) in
      simp t (made-behind k rs (at 1 high ∷ at 0 ((count xs + 1) % 256) ∷ []) xs)
      ∙ ap₂ (λ (n : ℕ) (ys : List ℕ). made (take n (at 1 high ∷ at 0 ((count xs + 1) % 256) ∷ [])) ys) f (made-run k (used xs) (record_bytes d) xs)

  high_same : high ≡ get_or xs 1 0
  unfolding count le16
  high_same = omega (arith, few)

  begun-agree : (p : ℕ) → p < used xs → get_or begun p 0 ≡ get_or xs p 0
  unfolding begun
  begun-agree = get_d_sets_before xs (used xs) (take k (record_bytes d))

  room : used xs + 2 + length d ≤ length xs
  room = (appendable_facts xs (length d) t).room

  high-agree : (p : ℕ) → p < used xs → get_or (set begun 1 high) p 0 ≡ get_or xs p 0
  high-agree p h =
      by_cases (eqb p 1)
      (λ e. let q = eqb-true p 1 e in
      ap (λ (i : ℕ). get_or (set begun 1 high) i 0) q ∙ get_or-set_same begun 1 high 0 (unfold begun in omega (arith, room, length-sets xs (used xs) (take k (record_bytes d)), low-used)) ∙ high_same ∙ ap (λ (i : ℕ). get_or xs i 0) (sym q))
      (λ e. get_or-set_other begun 1 p high 0 (eqb-false p 1 e) ∙ begun-agree p h)
    where
      low-used : 2 ≤ used xs
      low-used = unfold used in place-low xs (count xs)

  -- nothing before the free room changes
  cut-agree : Agree xs cut 0 (used xs)
  unfolding Agree made
  cut-agree p z h = go (k - (2 + length d)) refl
    where
      go : (j : ℕ) → k - (2 + length d) ≡ j → get_or cut p 0 ≡ get_or xs p 0
      go zero e = ap (λ (ys : List ℕ). get_or ys p 0) (cut-is 0 e) ∙ begun-agree p h
      go (suc zero) e = ap (λ (ys : List ℕ). get_or ys p 0) (cut-is 1 e) ∙ high-agree p h
      go (suc (suc j)) e = absurd (omega arith)

  held : used xs ≤ length xs
  held = omega (arith, room)

  abbrev len : length cut ≡ length xs
  len = make_stores-length k Record xs d

  pub cut-used : used cut ≡ used xs
  cut-used = same-used xs cut len held cut-agree

  pub cut-records : records cut ≡ records xs
  cut-records = same-records xs cut len held cut-agree

  pub cut-well_formed : (L M : ℕ) → body_ok L M xs ≡ true → body_ok L M cut ≡ true
  cut-well_formed = same-well_formed xs cut len held cut-agree

-- ---- a body that is not there has none

pub stores_empty : (w : Writing) (d : List ℕ) → stores w [] d ≡ []
unfolding stores
stores_empty Record d = simp (appendable_empty (length d))
stores_empty State d = simp (bio_ok-short [] (omega arith))

-- ---- no store made

pub none_made : (w : Writing) (xs d : List ℕ) → make_stores 0 w xs d ≡ xs
unfolding make_stores made
none_made w xs d = refl

-- ---- how many there are

pub length-append-stores : (xs d : List ℕ) → appendable xs (length d) ≡ true → length (stores Record xs d) ≡ length d + 4
unfolding stores
length-append-stores xs d t = simp t (length-record_stores xs d)

pub length-activate-stores : (xs d : List ℕ) → bio_ok xs ≡ true → length (stores State xs d) ≡ 1
unfolding stores
length-activate-stores xs d t = simp t

-- whether or not the body can take what is written
pub append-stores_few : (xs d : List ℕ) → length (stores Record xs d) ≤ length d + 4
unfolding stores
append-stores_few xs d =
    if_else_ind (λ (ss : List Store). length ss ≤ length d + 4) (appendable xs (length d)) (λ t. omega (arith, length-record_stores xs d)) (λ t. omega arith)

pub activate-stores_few : (xs d : List ℕ) → length (stores State xs d) ≤ 1
unfolding stores
activate-stores_few xs d = if_else_ind (λ (ss : List Store). length ss ≤ 1) (bio_ok xs) (λ t. omega arith) (λ t. omega arith)

-- two bytes hold the length of what is written, so the stores are few
pub stores_small : (w : Writing) (xs d : List ℕ) → length (stores w xs d) < 65540
unfolding stores
stores_small Record xs d =
    if_else_ind (λ (ss : List Store). length ss < 65540) (appendable xs (length d))
    (λ t. omega (arith, length-record_stores xs d, (appendable_facts xs (length d) t).short)) (λ t. omega arith)
stores_small State xs d = if_else_ind (λ (ss : List Store). length ss < 65540) (bio_ok xs) (λ t. omega arith) (λ t. omega arith)

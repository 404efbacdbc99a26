-- Records joined, as a walk stores them one by one. Read specs/Joined.antt before. Exports `joined-one`, `records_bound` and the laws of the
-- loop, `data_start`, `data_turn` and its like.
use Prim.Native.Nat.{ℕ, zero, suc, ◌+◌, ◌-◌, ◌≤◌, ◌<◌, min}
use mathlib.Core.Path.{◌≡◌, refl, sym, ap, ◌∙◌}
use mathlib.Core.List.{List, [], ◌∷◌, ◌++◌, append-nil}
use native.Mathlib.Omega.{arith}
use native.Mathlib.Numerals.{add-one}
use native.Mathlib.Nat.{add-zero, add-suc, sub-zero, suc-sub-suc}
use lib.ListN.{length, take, length-take, get_or-eq_default}
use lib.Seq.{sets, take-append-le}
use lib.Dec.{leb, ltb}
use borrow.Author.Tests.{le-ltb, le-leb, lt-leb, leb-true, leb-false}
use Rattle.base.specs.Choice.{if_else}
use Rattle.base.proofs.Cases.{by_cases, if_else_ind}
use Rattle.store_records.specs.Body.{count, record_at, records, nth}
use Rattle.machine_reply_record.specs.Joined.{records_joined, records_data}
use Rattle.objects_writer.proofs.Storing.{Wrote, wrote_none, wrote_run}
use Rattle.store_records.proofs.Bodies.{records-length}
use Rattle.store_records.proofs.Walks.{Walked, walked_nth}

-- what a cut leaves of two lists
take_more : (k : ℕ) (a b : List ℕ) → take k (a ++ b) ≡ take k a ++ take (k - length (take k a)) b
take_more zero a b = refl
take_more (suc k) [] b = rw sub-zero refl
take_more (suc k) (x ∷ a) b = rw suc-sub-suc (ap (λ (l : List ℕ). x ∷ l) (take_more k a b))

-- ---- what is returned, by the numbers: nothing of records before the first, one record, and each behind those before it

pub joined_below : (rs : List (List ℕ)) (first n : ℕ) → n < first → records_joined rs first n ≡ []
unfolding records_joined
joined_below rs first zero h = refl
joined_below rs first (suc n) h = simp (lt-leb first (suc n) h) (append-nil (records_joined rs first n) ∙ joined_below rs first n (omega arith))

pub joined-one : (rs : List (List ℕ)) (n : ℕ) → 1 ≤ n → records_joined rs n n ≡ nth rs n
unfolding records_joined
joined-one rs zero p = absurd (omega arith)
joined-one rs (suc n) p = simp (le-leb (suc n) (suc n) (omega arith), joined_below rs (suc n) n (omega arith))

pub joined_next : (rs : List (List ℕ)) (first n : ℕ) → first ≤ n + 1 → records_joined rs first (n + 1) ≡ records_joined rs first n ++ nth rs (n + 1)
unfolding records_joined
joined_next rs first n h = rw add-one (simp (le-leb first (suc n) (omega arith)))

-- ---- a walk from the first number on: at the start there is nothing, and each turn adds a record

pub data_start : (rs : List (List ℕ)) (first n : ℕ) (out : List ℕ) → n ≤ first - 1 → Wrote out (records_data rs first n) 0 out
unfolding records_data records_joined
data_start rs first zero out h = wrote_none out
data_start rs first (suc n) out h = simp (joined_below rs first (suc n) (omega arith)) (wrote_none out)

pub data_turn : (xs : List ℕ) (first n at : ℕ) (r out : List ℕ) {len len' : ℕ} {last last' : List ℕ} → n < count xs → first ≤ n + 1 → Walked xs n at
    → r ≡ record_at xs at → Wrote out (records_data (records xs) first n) len last
    → (len' ≡ len + length (take (2048 - len) r)) × (last' ≡ sets last len (take (2048 - len) r)) → Wrote out (records_data (records xs) first (n + 1)) len' last'
unfolding records_data
data_turn xs first n at r out {len} {len'} {last} {last'} h i p e w s =
    let J : List ℕ = records_joined (records xs) first n in
    let d : List ℕ = take (2048 - len) r in
    let more : records_joined (records xs) first (n + 1) ≡ J ++ r = joined_next (records xs) first n i ∙ ap (λ (l : List ℕ). J ++ l) (walked_nth xs n at h p ∙ sym e) in
    let q : take 2048 J ++ d ≡ take 2048 (records_joined (records xs) first (n + 1)) =
    ap (λ (k : ℕ). take 2048 J ++ take (2048 - k) r) w.place ∙ sym (ap (take 2048) more ∙ take_more 2048 J r) in
    let g : Wrote out (take 2048 J ++ d) (len + length d) last' = wrote_run out (take 2048 J) d w s.1 in
    record { place = s.0 ∙ g.place ∙ ap length q; bytes = g.bytes ∙ ap (sets out 0) q }

-- never more than the cut
pub records_bound : (rs : List (List ℕ)) (first last : ℕ) → length (records_data rs first last) ≤ 2048
unfolding records_data
records_bound rs first last = simp length-take (omega arith)

-- ---- numbers above the last record's

joined_past : (rs : List (List ℕ)) (first n k : ℕ) → length rs ≤ n → records_joined rs first (n + k) ≡ records_joined rs first n
unfolding records_joined nth
joined_past rs first n zero h = simp add-zero
joined_past rs first n (suc k) h =
    let none : if_else (leb first (suc (n + k))) (nth rs (suc (n + k))) [] ≡ [] =
    if_else_ind (λ (l : List ℕ). l ≡ []) (leb first (suc (n + k))) (λ e. get_or-eq_default rs [] (omega arith)) (λ e. refl) in
    ap (records_joined rs first) (add-suc n k) ∙ ap (λ (l : List ℕ). records_joined rs first (n + k) ++ l) none ∙ append-nil (records_joined rs first (n + k)) ∙ joined_past rs first n k h

pub joined_end : (rs : List (List ℕ)) (first last n : ℕ) → n ≡ min last (length rs) → records_joined rs first n ≡ records_joined rs first last
joined_end rs first last n e =
    by_cases (leb last (length rs))
    (λ h. let g = leb-true last (length rs) h in ap (records_joined rs first) (omega arith))
    (λ h. let g = leb-false last (length rs) h in
    let q : n + (last - n) ≡ last = omega arith in
    sym (ap (records_joined rs first) (sym q) ∙ joined_past rs first n (last - n) (omega arith)))

pub data_all : (xs : List ℕ) (first last n : ℕ) → n ≡ min last (count xs) → records_data (records xs) first n ≡ records_data (records xs) first last
unfolding records_data
data_all xs first last n e = let l = records-length xs in ap (take 2048) (joined_end (records xs) first last n (omega arith))

-- ---- numbers behind those that fill the 2,048 bytes

full_past : (rs : List (List ℕ)) (first n k : ℕ) → 2048 ≤ length (records_joined rs first n) → records_data rs first (n + k) ≡ records_data rs first n
unfolding records_data records_joined
full_past rs first n zero h = simp add-zero
full_past rs first n (suc k) h =
    let q : take 2048 (records_joined rs first (n + k)) ≡ take 2048 (records_joined rs first n) = full_past rs first n k h in
    let l : 2048 ≤ length (records_joined rs first (n + k)) = omega (arith, simp length-take at (ap length q)) in
    ap (records_data rs first) (add-suc n k) ∙ take-append-le 2048 (records_joined rs first (n + k)) _ l ∙ q

pub data_full : (rs : List (List ℕ)) (first last n : ℕ) → n ≤ last → 2048 ≤ length (records_data rs first n) → records_data rs first n ≡ records_data rs first last
unfolding records_data
data_full rs first last n h f =
    let l : 2048 ≤ length (records_joined rs first n) = omega (arith, simp length-take at f) in
    let q : n + (last - n) ≡ last = omega arith in
    sym (ap (records_data rs first) (sym q) ∙ full_past rs first n (last - n) l)

-- ---- the answer, where the buffer has 2,048 bytes

pub data_end : (rs : List (List ℕ)) (first last n : ℕ) (out : List ℕ) {len : ℕ} {now : List ℕ} → 2048 ≤ length out
    → records_data rs first n ≡ records_data rs first last → Wrote out (records_data rs first n) len now
    → (len ≡ if_else (ltb (length out) 2048) 0 (length (records_data rs first last))) × (now ≡ if_else (ltb (length out) 2048) out (sets out 0 (records_data rs first last)))
data_end rs first last n out h q w = simp (le-ltb (length out) 2048 h) (w.place ∙ ap length q, w.bytes ∙ ap (sets out 0) q)

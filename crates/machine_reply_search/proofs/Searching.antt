-- A search over the records of a body, record by record: the invariant of its loop. Read specs/Found.antt and store_records' proofs/Walks.antt
-- before.
use Prim.Native.Nat.{ℕ, ◌+◌, ◌≤◌, ◌<◌, min}
use mathlib.Core.Path.{◌≡◌, refl, sym, ap, ap₂, ◌∙◌}
use mathlib.Core.Bool.{Bool, true, false}
use mathlib.Core.List.{List, [], ◌∷◌, ◌++◌}
use native.Mathlib.Omega.{arith}
use native.Mathlib.Nat.{zero-add}
use lib.ListN.{length, take, set, replicate, length-set, length-append}
use Rattle.base.proofs.Cases.{by_cases, false-true}
use Rattle.base.proofs.Runs.{sets_snoc, part-sets}
use Rattle.machine_window.specs.Window.{matches_in}
use Rattle.store_records.specs.Body.{count, behind, record_at, records}
use Rattle.machine_reply_search.specs.Found.{is_match, matching_to, matching, hits, kept}
use Rattle.store_records.proofs.Walks.{Walked, walked_first, walked_next, walked_nth-take, records-length-take}
use Rattle.machine_reply_search.proofs.Matching.{empty, matching_hit, matching_miss, matching-first}

-- the answer of a search
abbrev pub Answer : List ℕ → List ℕ → ℕ → Type 0
Answer ns numbers n = (take n numbers ≡ ns) × (n ≡ length ns) × (numbers ≡ kept ns)

answer : (ns numbers : List ℕ) (n : ℕ) → n ≤ 254 → n ≡ length ns → numbers ≡ kept ns → Answer ns numbers n
unfolding kept
answer ns numbers n h e f = (ap₂ take e f ∙ part-sets (replicate 254 0) 0 ns (omega arith), e, f)

module _ (xs : List ℕ) (offset number : ℕ) (text : List ℕ) where
  -- the numbers of those of the first i records that match
  abbrev pub up_to : ℕ → List ℕ
  up_to i = matching_to (take 254 (records xs)) offset number text i

  -- i records are passed, and `at` is the place of the next; n numbers are kept, and none where one would have ended the search
  pub record Sought (one : Bool) (end : ℕ) (numbers : List ℕ) (n at i : ℕ) : Type 0 where
    pub place : Walked xs i at
    pub low : i ≤ end
    pub last : end ≡ min (count xs) 254
    pub few : n ≤ i
    pub long : length numbers ≡ 254
    pub size : n ≡ length (up_to i)
    pub holds : numbers ≡ kept (up_to i)
    pub none : one ≡ true → n ≡ 0

  pub sought_start : (one : Bool) (end : ℕ) → end ≡ min (count xs) 254 → Sought one end (replicate 254 0) 0 2 0
  unfolding matching_to kept
  sought_start one end e =
      record { place = walked_first xs; low = omega arith; last = e; few = omega arith; long = refl; size = refl; holds = refl; none = λ h. refl }

  -- what the code finds of the next record
  is-match : (i at : ℕ) (r : List ℕ) (f : Bool) → i < min (count xs) 254 → Walked xs i at → r ≡ record_at xs at → f ≡ matches_in r offset number text
      → is_match (take 254 (records xs)) offset number text (i + 1) ≡ f
  unfolding is_match
  is-match i at r f h p q e =
      sym (e ∙ ap (λ (x : List ℕ). matches_in x offset number text) (q ∙ sym (walked_nth-take xs 254 i at h p)))

  -- a number behind those that are kept
  keep : (ns numbers : List ℕ) (n x : ℕ) → n ≡ length ns → numbers ≡ kept ns → set numbers n x ≡ kept (ns ++ (x ∷ []))
  unfolding kept
  keep ns numbers n x e f =
      ap₂ (λ (l : List ℕ) (k : ℕ). set l k x) f (e ∙ sym (zero-add (length ns))) ∙ sym (sets_snoc (replicate 254 0) 0 ns x)

  module _ (one : Bool) (end : ℕ) (numbers : List ℕ) (n at i : ℕ) (s : Sought one end numbers n at i) (h : i < end)
      (r : List ℕ) (f : Bool) (q : r ≡ record_at xs at) (e : f ≡ matches_in r offset number text) where
    same : is_match (take 254 (records xs)) offset number text (i + 1) ≡ f
    same = is-match i at r f (omega (arith, s.last)) s.place q e

    one_more : f ≡ true → up_to (i + 1) ≡ up_to i ++ ((i + 1) ∷ [])
    one_more t = matching_hit (take 254 (records xs)) offset number text i (same ∙ t)

    pub sought_miss : (at' : ℕ) → at' ≡ behind xs at → f ≡ false → Sought one end numbers n at' (i + 1)
    sought_miss at' b t =
        let m = matching_miss (take 254 (records xs)) offset number text i (same ∙ t) in
        record {
          place = walked_next xs i at at' s.place b;
          low = omega arith;
          last = s.last;
          few = omega (arith, s.few);
          long = s.long;
          size = s.size ∙ sym (ap length m);
          holds = s.holds ∙ sym (ap kept m);
          none = s.none;
        }

    pub sought_hit : (at' : ℕ) → at' ≡ behind xs at → f ≡ true → one ≡ false → Sought one end (set numbers n (i + 1)) (n + 1) at' (i + 1)
    sought_hit at' b t o =
        let m = one_more t in
        record {
          place = walked_next xs i at at' s.place b;
          low = omega arith;
          last = s.last;
          few = omega (arith, s.few);
          long = simp length-set s.long;
          size = sym (ap length m ∙ length-append (up_to i) ((i + 1) ∷ []) ∙ omega (arith, s.size));
          holds = keep (up_to i) numbers n (i + 1) s.size s.holds ∙ sym (ap kept m);
          none = λ g. false-true (sym o ∙ g);
        }

    -- the first match ends the search where one is asked for
    pub sought_one : f ≡ true → one ≡ true
        → Answer (hits (take 254 (records xs)) offset number text one) (set numbers n (i + 1)) (n + 1)
    unfolding hits
    sought_one t o =
        let z = s.none o in
        let before : up_to i ≡ [] = empty (up_to i) (sym s.size ∙ z) in
        let u : up_to (i + 1) ≡ (i + 1) ∷ [] = one_more t ∙ ap (λ (l : List ℕ). l ++ ((i + 1) ∷ [])) before in
        let l = records-length-take xs 254 in
        let first = matching-first (take 254 (records xs)) offset number text (i + 1) (i + 1) (omega (arith, s.last)) u in
        let H : hits (take 254 (records xs)) offset number text one ≡ (i + 1) ∷ [] = simp o first in
        rw H (answer ((i + 1) ∷ []) (set numbers n (i + 1)) (n + 1) (omega arith) (omega arith)
        (keep (up_to i) numbers n (i + 1) s.size s.holds ∙ ap (λ (l : List ℕ). kept (l ++ ((i + 1) ∷ []))) before))

  pub sought_end : (one : Bool) (end : ℕ) (numbers : List ℕ) (n at i : ℕ) → Sought one end numbers n at i → end ≤ i
      → Answer (hits (take 254 (records xs)) offset number text one) numbers n
  unfolding hits matching
  sought_end one end numbers n at i s h =
      let l = records-length-take xs 254 in
      let all : up_to i ≡ matching (take 254 (records xs)) offset number text = ap up_to (omega (arith, s.last, s.low)) in
      let H : up_to i ≡ hits (take 254 (records xs)) offset number text one =
      by_cases one
      (λ o. let none = empty (up_to i) (sym s.size ∙ s.none o) in simp (o, sym all, none))
      (λ o. simp o all) in
      answer _ numbers n (omega (arith, s.last, s.low, s.few)) (s.size ∙ ap length H) (s.holds ∙ ap kept H)

-- An index that is kept: what was built reads each record of the body, and stays what building gives when the list of records stays, and
-- when it goes on and the index is extended. How the body changed does not matter.
-- Read before: specs/Index.antt, Places, Answering. Exports: `build_counts`, `build_list`, `build-holds`, `build-entry` (what building
-- gives), `Read`, `reads_record`, `reads_none` (what such a list reads), `read_returns` (what `read` returns), `count_later`, `build-same`, `extend_more`
-- (the list after a change of the body).
use Prim.Native.Nat.{ℕ, zero, suc, ◌+◌, ◌-◌, ◌≤◌}
use mathlib.Core.Path.{◌≡◌, refl, sym, ap, ap₂, ◌∙◌, subst}
use mathlib.Core.Bool.{true}
use mathlib.Core.List.{List, [], ◌∷◌, ◌++◌}
use native.Mathlib.Omega.{arith}
use lib.ListN.{length, get_or, take}
use lib.Seq.{sets, length-sets, get_or-take}
use lib.Dec.{leb}
use borrow.Author.Tests.{leb-true, leb-false}
use denote.Ref.{Bor}
use Rattle.base.specs.Bytes.{part}
use Rattle.base.specs.Lent.{PartOf}
use Rattle.base.proofs.Cases.{by_cases}
use Rattle.base.proofs.Runs.{part-sets}
use Rattle.store_records.specs.Little.{le16}
use Rattle.store_records.specs.Body.{count, next_place, place, records, nth}
use Rattle.store_records.proofs.Bodies.{ok_at_facts, ok_to-at, body_ok_facts, records-at, nth-at}
use Rattle.store_records.proofs.Growing.{length_at, count_grows, place_kept}
use Rattle.store_kinds.specs.declared.rules.Key.TheVariants.{Kind}
use Rattle.store_kinds.proofs.Table.{rule_regular}
use Rattle.store_index.specs.Index.{places_to, record_file_ok, build, build_into, extend, extend_into, place_for, measure, IndexedPart}
use Rattle.store_index.proofs.Places.{length-places, get_d_places, places-turn, record_file_ok_facts, record_file_ok-body_ok}
use Rattle.store_index.proofs.Answering.{build-done, extend-done, measure-zero, measure_past, measure-whole}
use Rattle.std.specs.Prelude.{Option, Some, None}

-- ---- what was built

module _ (k : ℕ) (xs ps : List ℕ) (e : record_file_ok k xs ≡ true) (h : count xs ≤ length ps) where
  pub build_counts : build k xs ps ≡ Some (count xs)
  build_counts = sym (build-done k xs ps (count xs) _ e refl h refl).0

  pub build_list : build_into k xs ps ≡ sets ps 0 (places_to xs (count xs))
  build_list = sym (build-done k xs ps (count xs) _ e refl h refl).1

  pub build-holds : take (count xs) (build_into k xs ps) ≡ places_to xs (count xs)
  build-holds =
      let l : length (places_to xs (count xs)) ≡ count xs = length-places xs (count xs) in
      ap (take (count xs)) build_list
      ∙ ap (λ (m : ℕ). take m (sets ps 0 (places_to xs (count xs)))) (sym l)
      ∙ part-sets ps 0 (places_to xs (count xs)) (omega arith)

  -- entry n - 1 is the place of record n
  pub build-entry : (n : ℕ) → 1 ≤ n → n ≤ count xs → get_or (build_into k xs ps) (n - 1) 0 ≡ place xs (n - 1)
  build-entry n f l =
      sym (get_or-take (count xs) (build_into k xs ps) (n - 1) 0 (omega arith))
      ∙ ap (λ (m : List ℕ). get_or m (n - 1) 0) build-holds
      ∙ get_d_places xs (count xs) (n - 1) (omega arith)

-- ---- what it reads

module _ (k : ℕ) (xs : List ℕ) (e : record_file_ok k xs ≡ true) where
  abbrev index : List ℕ
  index = places_to xs (count xs)

  -- record n by its place: how many bytes it has, and the bytes
  pub record Read (n : ℕ) : Type 0 where
    pub counted : measure xs index n ≡ Some (length (nth (records xs) n))
    pub small : length (nth (records xs) n) ≤ 929
    pub bytes : part xs (place xs (n - 1) + 2) (length (nth (records xs) n)) ≡ nth (records xs) n

  pub reads_record : (n : ℕ) → 1 ≤ n → n ≤ count xs → Read n
  reads_record n h i =
      let o = record_file_ok_facts k xs e in
      let r = o.rule in
      let f = body_ok_facts r.longest r.most xs o.ok in
      let q : ℕ = place xs (n - 1) in
      let p : get_or index (n - 1) 0 ≡ q = get_d_places xs (count xs) (n - 1) (omega arith) in
      let a = ok_at_facts r.longest xs q (ok_to-at r.longest xs (n - 1) (count xs) (omega arith) f.all) in
      let b : part xs (q + 2) (le16 xs q) ≡ nth (records xs) n = nth-at xs n q h i refl in
      let l : le16 xs q ≡ length (nth (records xs) n) = length_at r.longest r.most xs (n - 1) o.ok (omega arith) ∙ ap length (records-at xs (n - 1) (omega arith) ∙ b) in
      let m = length-places xs (count xs) in
      record {
        counted = sym (measure-whole xs index n h (omega arith) (subst (λ (x : ℕ). next_place xs x ≤ length xs) (sym p) a.whole))
            ∙ ap Some (ap (le16 xs) p ∙ l);
        small = omega (arith, a.short, (rule_regular (Kind k) r o.ruled).long);
        bytes = ap (part xs (q + 2)) (sym l) ∙ b;
      }

  -- no other number reads
  pub reads_none : (n : ℕ) → (1 ≤ n → n ≤ count xs → ⊥) → measure xs index n ≡ None
  reads_none zero f = sym (measure-zero xs index 0 (omega arith))
  reads_none (suc n) f =
      by_cases (leb (suc n) (count xs))
      (λ t. absurd (f (omega arith) (leb-true (suc n) (count xs) t)))
      (λ t. sym (measure_past xs index (suc n) (let l = length-places xs (count xs) in let g = leb-false (suc n) (count xs) t in omega arith)))

  -- what `read` returns is the record: r is the part that its contract tells, of a body that is lent
  pub read_returns : (body r : Bor (List ℕ)) (n : ℕ) → body.now ≡ xs → 1 ≤ n → n ≤ count xs → IndexedPart (measure xs index n) index n body r → r.now ≡ nth (records xs) n
  unfolding place_for
  read_returns body r n b h i p =
      let a = reads_record n h i in
      let l : ℕ = length (nth (records xs) n) in
      let q : PartOf body (get_or index (n - 1) 0 + 2) l r = subst (λ (x : Option ℕ). IndexedPart x index n body r) a.counted p in
      q.bytes ∙ ap₂ (λ (y : List ℕ) (x : ℕ). part y (x + 2) l) b (get_d_places xs (count xs) (n - 1) (omega arith)) ∙ a.bytes

-- ---- a body that changed

module _ (k : ℕ) (xs later : List ℕ) (more : List (List ℕ)) (e : record_file_ok k xs ≡ true) (f : record_file_ok k later ≡ true) (g : records later ≡ records xs ++ more) where
  places-kept : (n : ℕ) → n ≤ count xs → places_to later n ≡ places_to xs n
  unfolding places_to
  places-kept zero h = refl
  places-kept (suc n) h =
      let o = record_file_ok_facts k xs e in
      let r = o.rule in
      ap₂ (λ (l : List ℕ) (p : ℕ). l ++ (p ∷ [])) (places-kept n (omega arith))
      (place_kept r.longest r.most xs later more o.ok (record_file_ok-body_ok k later r o.ruled f) g n (omega arith))

  pub count_later : count later ≡ count xs + length more
  count_later =
      let o = record_file_ok_facts k xs e in
      let r = o.rule in
      count_grows r.longest r.most xs later more o.ok (record_file_ok-body_ok k later r o.ruled f) g

  -- the list of records stays: the index is that of the later body
  pub build-same : (ps : List ℕ) → count later ≤ length ps → more ≡ [] → build_into k later ps ≡ build_into k xs ps
  build-same ps room z =
      let c : count later ≡ count xs = count_later ∙ ap (λ (l : List (List ℕ)). count xs + length l) z ∙ omega arith in
      build_list k later ps f room
      ∙ ap (sets ps 0) (ap (places_to later) c ∙ places-kept (count xs) (omega arith))
      ∙ sym (build_list k xs ps e (omega arith))

  -- it goes on by one record: so does the index
  pub extend_more : (ps : List ℕ) → count later ≤ length ps → length more ≡ 1 → (extend k later (build_into k xs ps) (count xs) ≡ Some (count later)) × (extend_into k later (build_into k xs ps) (count xs) ≡ build_into k later ps)
  extend_more ps room o =
      let n : ℕ = count xs in
      let c : count later ≡ n + 1 = (let z = count_later in omega arith) in
      let b : build_into k xs ps ≡ sets ps 0 (places_to xs n) = build_list k xs ps e (omega arith) in
      let q : build_into k xs ps ≡ sets ps 0 (places_to later n) = b ∙ ap (sets ps 0) (sym (places-kept n (omega arith))) in
      let m : length (build_into k xs ps) ≡ length ps = ap length b ∙ length-sets ps 0 (places_to xs n) in
      let x = extend-done k later (build_into k xs ps) n f (sym c) (omega arith) in (
        sym x.0 ∙ ap Some (sym c),
        sym x.1
            ∙ places-turn later ps (build_into k xs ps) n (place later n) q refl
            ∙ ap (λ (i : ℕ). sets ps 0 (places_to later i)) (sym c)
            ∙ sym (build_list k later ps f room),
      )

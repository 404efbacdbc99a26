-- Which of the two bodies has a certificate, and where it stands there.
-- Read before: specs/Certificates.antt. Exports: `certificates_ok-body_ok`; `has_number-…` (a number and a count); `Stands`, `stands` (a record is
-- whole in its body, and place and length are small); `stretch_of-is` (the same, as the code has it); `located-…` (the answer by the tests, in
-- their order); `BothOk`, `Told`, `told` (what an answer tells); `card_part`, `desk_part` (what is returned).
use Prim.Native.Nat.{ℕ, ◌+◌, ◌-◌, ◌≤◌, ◌<◌, min}
use mathlib.Core.Path.{◌≡◌, refl, sym, ap, ◌∙◌, subst}
use mathlib.Core.Bool.{true, false, and-false}
use mathlib.Core.List.{List, [], ◌∷◌}
use native.Mathlib.Omega.{arith}
use lib.ListN.{length}
use borrow.Author.Tests.{le-leb, leb-true}
use denote.Ref.{Bor}
use Rattle.base.specs.Choice.{all_of}
use Rattle.base.specs.Bytes.{part}
use Rattle.base.specs.Lent.{WholePart}
use Rattle.base.proofs.Cases.{if_else_ind, all_of_facts, all_of_accepted}
use Rattle.base.proofs.Lending.{whole_part_is}
use Rattle.store_records.specs.Little.{le16}
use Rattle.store_records.specs.Body.{count, place, records, nth, body_ok}
use Rattle.store_records.proofs.Bodies.{place_lt, ok_at_facts, ok_to-at, body_ok_facts, nth-at}
use Rattle.store_kinds.specs.Rules.{rule, rules, travel, first_rule, rule_of}
use Rattle.store_kinds.specs.declared.rules.Key.TheVariants.{Kind}
use Rattle.store_kinds.specs.declared.rules.Rule.{Rule}
use Rattle.store_kinds.proofs.ByKind.{kind_ok-rule, place_small}
use Rattle.store_certificates.specs.Certificates.{certificates_ok, has_number, stretch_of, located, CertificatePart}
use Rattle.store_certificates.specs.declared.Stretch.{Stretch}
use Rattle.store_certificates.specs.declared.Located.{Located}
use Rattle.store_certificates.specs.declared.Located.TheVariants.{Card, Desk, Missing, Refused}
use Rattle.std.specs.Prelude.{Some}

-- ---- one body

-- the row of the table
abbrev certificates : Rule
certificates = rule 0x011A travel 0x011A 0x1A 929 254

certificates_ruled : rule_of (Kind 0x011A) ≡ Some certificates
unfolding rule_of first_rule rules
certificates_ruled = refl

-- it says how long and how many the records may be
pub certificates_ok-body_ok : (xs : List ℕ) → certificates_ok xs ≡ body_ok 929 254 xs
unfolding certificates_ok
certificates_ok-body_ok xs = kind_ok-rule 0x011A xs certificates certificates_ruled

module _ (xs : List ℕ) (n : ℕ) where
  pub has_number_accepted : 1 ≤ n → n ≤ count xs → has_number xs n ≡ true
  unfolding has_number
  has_number_accepted h i = all_of_accepted _ (le-leb _ _ h, (le-leb _ _ i, tt))

  pub record HasNumber : Type 0 where
    pub first : 1 ≤ n
    pub last : n ≤ count xs

  pub has_number_facts : has_number xs n ≡ true → HasNumber
  unfolding has_number
  has_number_facts e = let h = all_of_facts _ e in record { first = leb-true _ _ h.0; last = leb-true _ _ h.1.0 }

-- record n stands whole at s, and place and length have room in 18 and in 10 bits
pub record Stands (xs : List ℕ) (n : ℕ) (s : Stretch) : Type 0 where
  pub behind : s.start ≡ place xs (n - 1) + 2
  pub start_small : s.start < 262144
  pub length_small : s.length < 1024
  pub some : 1 ≤ s.length
  pub within : s.start + s.length ≤ length xs
  pub bytes : part xs s.start s.length ≡ nth (records xs) n

pub stands : (xs : List ℕ) (n : ℕ) → certificates_ok xs ≡ true → has_number xs n ≡ true → Stands xs n (stretch_of xs n)
unfolding stretch_of
stands xs n c h =
    let k = sym (certificates_ok-body_ok xs) ∙ c in
    let b = body_ok_facts 929 254 xs k in
    let a = has_number_facts xs n h in
    let i : n - 1 < count xs = omega (arith, a.first, a.last) in
    let l = place_lt xs (n - 1) (count xs) i in
    let q = place_small (Kind 0x011A) certificates xs (count xs) certificates_ruled k (omega arith) in
    let o = ok_at_facts 929 xs (place xs (n - 1)) (ok_to-at 929 xs (n - 1) (count xs) i b.all) in
    record {
      behind = refl;
      start_small = omega arith;
      length_small = omega (arith, o.short);
      some = o.some;
      within = o.whole;
      bytes = nth-at xs n (place xs (n - 1)) a.first a.last refl;
    }

-- the same, as the code has it: `at` is the place of the record's length, which is l
pub stretch_of-is : (xs : List ℕ) (n at l : ℕ) → certificates_ok xs ≡ true → has_number xs n ≡ true → at ≡ place xs (min (n - 1) 65535) → l ≡ le16 xs at
    → (at + 2 < 262144) × (record { start = at + 2; length = l } ≡ stretch_of xs n)
unfolding stretch_of
stretch_of-is xs n at l c h e f =
    let a = has_number_facts xs n h in
    let b = body_ok_facts 929 254 xs (sym (certificates_ok-body_ok xs) ∙ c) in
    let q : at ≡ place xs (n - 1) = e ∙ ap (place xs) (omega (arith, a.last, b.few)) in
    let s = (stands xs n c h).start_small in
    (omega (arith, (stands xs n c h).behind), rw (f, q))

-- ---- which of the two

module _ (card desk : List ℕ) (n : ℕ) where
  pub located_desk_refused : certificates_ok desk ≡ false → located card desk n ≡ Refused
  unfolding located all_of
  located_desk_refused e = simp (e, and-false)

  module _ (c : certificates_ok card ≡ true) (d : certificates_ok desk ≡ true) where
    pub located_card : has_number card n ≡ true → located card desk n ≡ Card (stretch_of card n)
    unfolding located all_of
    located_card e = simp (c, d, e)

    pub located_desk : has_number card n ≡ false → has_number desk n ≡ true → located card desk n ≡ Desk (stretch_of desk n)
    unfolding located all_of
    located_desk e f = simp (c, d, e, f)

  -- both bodies are well formed
  abbrev pub BothOk : Type 0
  BothOk = (certificates_ok card ≡ true) × (certificates_ok desk ≡ true)

  -- what an answer tells
  abbrev pub Told : Located → Type 0
  Told (Card s) = BothOk × (has_number card n ≡ true) × Stands card n s
  Told (Desk s) = BothOk × (has_number card n ≡ false) × (has_number desk n ≡ true) × Stands desk n s
  Told Missing = BothOk × (has_number card n ≡ false) × (has_number desk n ≡ false)
  Told Refused = all_of (certificates_ok card ∷ certificates_ok desk ∷ []) ≡ false

  pub told : (l : Located) → located card desk n ≡ l → Told l
  unfolding located
  told l e =
      subst Told e
      (if_else_ind Told (all_of (certificates_ok card ∷ certificates_ok desk ∷ []))
      (λ t. let b = all_of_facts _ t in let k : BothOk = (b.0, b.1.0) in
      if_else_ind Told (has_number card n) (λ p. (k, p, stands card n k.0 p))
      (λ q. if_else_ind Told (has_number desk n) (λ p. (k, q, p, stands desk n k.1 p)) (λ r. (k, q, r))))
      (λ f. f))

-- ---- what is returned

module _ (card desk r : Bor (List ℕ)) (n : ℕ) where
  abbrev Answers : Located → Type 0
  Answers l = located card.now desk.now n ≡ l

  abbrev Returned : Type 0
  Returned = CertificatePart (located card.now desk.now n) n card desk r

  returned : (l : Located) → Answers l → CertificatePart l n card desk r → Returned
  returned l e p = subst (λ (o : Located). CertificatePart o n card desk r) (sym e) p

  pub card_part : (s : Stretch) → Answers (Card s) → WholePart card s.start s.length r → Returned
  card_part s e c =
      let t = (told card.now desk.now n (Card s) e).2 in
      let p = whole_part_is card s.start s.length r t.within c in
      returned (Card s) e (p.bytes ∙ t.bytes, p)

  pub desk_part : (s : Stretch) → Answers (Desk s) → WholePart desk s.start s.length r → Returned
  desk_part s e c =
      let t = (told card.now desk.now n (Desk s) e).3 in
      let p = whole_part_is desk s.start s.length r t.within c in
      returned (Desk s) e (p.bytes ∙ t.bytes, p)

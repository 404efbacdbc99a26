-- A certificate stays: where a body's list of records has gone on, each of its records is still there, in the same place and with the same
-- bytes. Read before: Locating.antt. Exports `located-kept`.
use Prim.Native.Nat.{ℕ, ◌-◌, ◌<◌}
use mathlib.Core.Path.{◌≡◌, sym, ap, ◌∙◌}
use mathlib.Core.Bool.{true}
use mathlib.Core.List.{List, ◌++◌}
use native.Mathlib.Omega.{arith}
use Rattle.base.specs.Bytes.{part}
use Rattle.store_records.specs.Body.{count, records, body_ok}
use Rattle.store_records.proofs.Bodies.{records-at}
use Rattle.store_records.proofs.Growing.{count_grows, record_kept, length-kept, place_kept}
use Rattle.store_certificates.specs.Certificates.{certificates_ok, has_number, stretch_of, located}
use Rattle.store_certificates.specs.declared.Stretch.{Stretch}
use Rattle.store_certificates.specs.declared.Located.TheVariants.{Card}
use Rattle.store_certificates.proofs.Locating.{certificates_ok-body_ok, has_number_facts, has_number_accepted, located_card, told}

-- the body `later` has the records of `card`, and perhaps more behind them
module _ (card later : List ℕ) (more : List (List ℕ)) (c : certificates_ok card ≡ true) (d : certificates_ok later ≡ true) (e : records later ≡ records card ++ more) where
  before : body_ok 929 254 card ≡ true
  before = sym (certificates_ok-body_ok card) ∙ c

  after : body_ok 929 254 later ≡ true
  after = sym (certificates_ok-body_ok later) ∙ d

  stretch_of-kept : (n : ℕ) → has_number card n ≡ true → stretch_of later n ≡ stretch_of card n
  unfolding stretch_of
  stretch_of-kept n h =
      let a = has_number_facts card n h in
      let i : n - 1 < count card = omega (arith, a.first, a.last) in
      rw (length-kept 929 254 card later more before after e (n - 1) i, place_kept 929 254 card later more before after e (n - 1) (omega arith))

  stretch-bytes : (n : ℕ) → has_number card n ≡ true
      → part later (stretch_of later n).start (stretch_of later n).length ≡ part card (stretch_of card n).start (stretch_of card n).length
  unfolding stretch_of
  stretch-bytes n h =
      let a = has_number_facts card n h in
      let g = count_grows 929 254 card later more before after e in
      let i : n - 1 < count card = omega (arith, a.first, a.last) in
      sym (records-at later (n - 1) (omega arith)) ∙ record_kept 929 254 card later more before after e (n - 1) i ∙ records-at card (n - 1) i

  -- what a reference finds on the card it finds on the card later, whatever body the desk has by then: the answer is the same, and so are the
  -- bytes there
  pub located-kept : (desk other : List ℕ) (n : ℕ) (s : Stretch) → certificates_ok other ≡ true → located card desk n ≡ Card s
      → (located later other n ≡ Card s) × (part later s.start s.length ≡ part card s.start s.length)
  located-kept desk other n s o h =
      let t = told card desk n (Card s) h in
      let a = has_number_facts card n t.1 in
      let g = count_grows 929 254 card later more before after e in
      let q : s ≡ stretch_of card n = cc (located_card card desk n c t.0.1 t.1) in
      let k : stretch_of later n ≡ s = stretch_of-kept n t.1 ∙ sym q in (
        located_card later other n d o (has_number_accepted later n a.first (omega (arith, a.last))) ∙ ap Card k,
        ap (λ (x : Stretch). part later x.start x.length) (sym k) ∙ stretch-bytes n t.1 ∙ ap (λ (x : Stretch). part card x.start x.length) (sym q),
      )

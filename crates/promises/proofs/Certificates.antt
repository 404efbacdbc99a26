-- The certificate that a stamp names: what the result of `malquindo_certificate` tells, and that a certificate stays over any calls. Read before:
-- ../specs/Certificates.antt, Bodies.antt, proofs/Locating.antt of store_certificates. Exports `c_certificate`, `c_certificate-kept`.
use Prim.Native.Nat.{ℕ, ◌+◌, ◌*◌, ◌%◌, ◌≤◌, ◌<◌}
use mathlib.Core.Path.{◌≡◌, refl, sym, ap, ap₂, ◌∙◌}
use mathlib.Core.Bool.{true, false, ◌&&◌, and-true}
use mathlib.Core.List.Memᴰ
use mathlib.Core.List.{List, [], ◌∷◌, ◌++◌}
use native.Mathlib.Omega.{arith}
use lib.ListN.{length}
use Rattle.base.specs.Choice.{all_of}
use Rattle.base.specs.Bytes.{part}
use Rattle.base.proofs.Cases.{false-true, by_cases}
use Rattle.store_records.specs.Body.{records, nth, body_ok}
use Rattle.store_records.proofs.Bodies.{body_ok_facts, body_ok-short, records-length}
use Rattle.store_kinds.specs.Rules.{is_biometrics}
use Rattle.store_image.specs.Image.{has, body, records_of, well_formed}
use Rattle.store_image.proofs.Laws.{body-well_formed, body_lacking}
use Rattle.store_certificates.specs.Certificates.{certificates_ok, has_number, located, which_body}
use Rattle.store_certificates.specs.declared.Stretch.{Stretch}
use Rattle.store_certificates.specs.declared.Located.{Located}
use Rattle.store_certificates.specs.declared.Located.TheVariants.{Card, Desk, Missing as NotThere, Refused}
use Rattle.store_certificates.proofs.Locating.{certificates_ok-body_ok, has_number_accepted, has_number_facts, Stands, BothOk, Told, told}
use Rattle.store_certificates.proofs.Keeping.{located-kept}
use Rattle.malquindo.specs.Face.{certificate_result}
use Rattle.promises.specs.Linked.{refusal_in, CCall, after_c, additions_c}
use Rattle.promises.specs.Bodies.{IsNumber}
use Rattle.promises.specs.Certificates.{which_in, certificate_place_in, certificate_length_in, certificate_bytes, StandsC, CertificateC, CCertificate, card_body, certificate_on, CCertificateKept}
use Rattle.promises.proofs.Calling.{c_holds}
use Rattle.promises.proofs.Bodies.{lent_body-is, lent_records, lent_grown, after_c-append}

-- ---- the numbers of a result

-- the four numbers of a result r
record Tells (r f w s l : ℕ) : Type 0 where
  refusal : refusal_in r ≡ f
  which : which_in r ≡ w
  place : certificate_place_in r ≡ s
  length : certificate_length_in r ≡ l

tells : (r f w s l : ℕ) → w < 16 → s < 262144 → l < 1024 → r ≡ f * 4294967296 + w * 268435456 + s % 262144 * 1024 + l % 1024 → Tells r f w s l
unfolding refusal_in which_in certificate_place_in certificate_length_in
tells r f w s l a b c e = record { refusal = omega arith; which = omega arith; place = omega arith; length = omega arith }

-- which body it is can be read from any result
which_read : (l : Located) → which_in (certificate_result l) ≡ which_body l
unfolding which_in certificate_result
which_read (Card s) = omega arith
which_read (Desk s) = omega arith
which_read NotThere = omega arith
which_read Refused = omega arith

-- a result of 0 names no body
zero_which : (r : ℕ) → r ≡ 0 → which_in r ≡ 0
unfolding which_in
zero_which r z = omega arith

-- ---- which certificate it is

module _ (xs : List ℕ) (n : ℕ) where
  is_number-has : IsNumber xs n → has_number xs n ≡ true
  is_number-has h = has_number_accepted xs n h.0 (let c = records-length xs in omega (arith, h.1))

  has-is_number : has_number xs n ≡ true → IsNumber xs n
  has-is_number e = let h = has_number_facts xs n e in (h.first, (let c = records-length xs in omega (arith, h.last)))

  is_number-none : has_number xs n ≡ false → IsNumber xs n → ⊥
  is_number-none e h = false-true (sym e ∙ is_number-has h)

  -- no body has a record of number 255
  is_number-last : certificates_ok xs ≡ true → IsNumber xs n → n ≤ 254
  is_number-last c h =
      let b = body_ok_facts 929 254 xs (sym (certificates_ok-body_ok xs) ∙ c) in
      omega (arith, b.few, h.1, records-length xs)

  stands-c : (s : Stretch) (r f w : ℕ) → Stands xs n s → has_number xs n ≡ true → Tells r f w s.start s.length → StandsC xs n r
  unfolding certificate_bytes
  stands-c s r f w h e t =
      record {
        there = has-is_number e;
        behind = t.place ∙ h.behind;
        within = omega (arith, h.within, t.place, t.length);
        some = omega (arith, h.some, t.length);
        bytes = ap₂ (λ (x y : ℕ). part xs x y) t.place t.length ∙ h.bytes;
      }

module _ (card desk : List ℕ) (n : ℕ) where
  both : all_of (certificates_ok card ∷ certificates_ok desk ∷ []) ≡ (body_ok 929 254 card && body_ok 929 254 desk)
  unfolding all_of
  both = simp (certificates_ok-body_ok, and-true)

  both_ok : BothOk card desk n → (body_ok 929 254 card && body_ok 929 254 desk) ≡ true
  both_ok h = rw (← certificates_ok-body_ok card, ← certificates_ok-body_ok desk, h.0, h.1)

  found-card : (s : Stretch) → Told card desk n (Card s) → CertificateC card desk n (certificate_result (Card s))
  unfolding certificate_result
  found-card s t =
      let q = t.2 in
      let r = tells (certificate_result (Card s)) 0 1 s.start s.length (omega arith) q.start_small q.length_small refl in
      let h = has-is_number card n t.1 in
      record {
        refused_complete = λ f. false-true (sym f ∙ both_ok t.0);
        refused_sound = λ g. absurd (omega (arith, r.refusal));
        which_known = rw r.which (Memᴰ.tail (Memᴰ.head refl));
        card_complete = λ _ _. r.which;
        card_sound = λ _. stands-c card n s _ 0 1 q t.1 r;
        desk_complete = λ _ no _. absurd (no h);
        desk_sound = λ g. absurd (omega (arith, r.which));
        missing_complete = λ _ no _. absurd (no h);
        missing_sound = λ z. absurd (omega (arith, r.which, zero_which _ z));
        zero_missing = λ _ z. absurd (omega (arith, h.0));
        ones_missing = λ _ z. absurd (omega (arith, is_number-last card n t.0.0 h));
      }

  found-desk : (s : Stretch) → Told card desk n (Desk s) → CertificateC card desk n (certificate_result (Desk s))
  unfolding certificate_result
  found-desk s t =
      let q = t.3 in
      let r = tells (certificate_result (Desk s)) 0 2 s.start s.length (omega arith) q.start_small q.length_small refl in
      let h = has-is_number desk n t.2 in
      let none = is_number-none card n t.1 in
      record {
        refused_complete = λ f. false-true (sym f ∙ both_ok t.0);
        refused_sound = λ g. absurd (omega (arith, r.refusal));
        which_known = rw r.which (Memᴰ.tail (Memᴰ.tail (Memᴰ.head refl)));
        card_complete = λ _ g. absurd (none g);
        card_sound = λ g. absurd (omega (arith, r.which));
        desk_complete = λ _ _ _. r.which;
        desk_sound = λ _. (none, stands-c desk n s _ 0 2 q t.2 r);
        missing_complete = λ _ _ no. absurd (no h);
        missing_sound = λ z. absurd (omega (arith, r.which, zero_which _ z));
        zero_missing = λ _ z. absurd (omega (arith, h.0));
        ones_missing = λ _ z. absurd (omega (arith, is_number-last desk n t.0.1 h));
      }

  found_none : Told card desk n NotThere → CertificateC card desk n (certificate_result NotThere)
  unfolding certificate_result
  found_none t =
      let r = tells (certificate_result NotThere) 0 0 0 0 (omega arith) (omega arith) (omega arith) refl in
      let none = is_number-none card n t.1 in
      record {
        refused_complete = λ f. false-true (sym f ∙ both_ok t.0);
        refused_sound = λ g. absurd (omega (arith, r.refusal));
        which_known = rw r.which (Memᴰ.head refl);
        card_complete = λ _ g. absurd (none g);
        card_sound = λ g. absurd (omega (arith, r.which));
        desk_complete = λ _ _ g. absurd (is_number-none desk n t.2 g);
        desk_sound = λ g. absurd (omega (arith, r.which));
        missing_complete = λ _ _ _. refl;
        missing_sound = λ _. (none, is_number-none desk n t.2);
        zero_missing = λ _ _. refl;
        ones_missing = λ _ _. refl;
      }

  found-refused : Told card desk n Refused → CertificateC card desk n (certificate_result Refused)
  unfolding certificate_result
  found-refused t =
      let r = tells (certificate_result Refused) 9 0 0 0 (omega arith) (omega arith) (omega arith) refl in
      record {
        refused_complete = λ _. refl;
        refused_sound = λ _. sym both ∙ t;
        which_known = rw r.which (Memᴰ.head refl);
        card_complete = λ z _. absurd (omega (arith, r.refusal));
        card_sound = λ g. absurd (omega (arith, r.which));
        desk_complete = λ z _ _. absurd (omega (arith, r.refusal));
        desk_sound = λ g. absurd (omega (arith, r.which));
        missing_complete = λ z _ _. absurd (omega (arith, r.refusal));
        missing_sound = λ z. absurd (omega arith);
        zero_missing = λ z _. absurd (omega (arith, r.refusal));
        ones_missing = λ z _. absurd (omega (arith, r.refusal));
      }

pub c_certificate : CCertificate
c_certificate card desk n = go (located card desk n) (told card desk n (located card desk n) refl)
  where
    go : (l : Located) → Told card desk n l → CertificateC card desk n (certificate_result l)
    go (Card s) t = found-card card desk n s t
    go (Desk s) t = found-desk card desk n s t
    go NotThere t = found_none card desk n t
    go Refused t = found-refused card desk n t

-- ---- a certificate stays

-- the card's body, taken as a program takes it
card_body-is : (img : List ℕ) → well_formed img ≡ true → card_body img ≡ body img 0x011A
unfolding card_body
card_body-is img o = lent_body-is img 0x011A o

-- its records are those of the file
card_records : (img : List ℕ) → well_formed img ≡ true → records (card_body img) ≡ records_of img 0x011A
unfolding card_body
card_records img o = lent_records img 0x011A o

certificates_records : is_biometrics 0x011A ≡ false
certificates_records = unfold is_biometrics all_of in refl

-- no bytes are no body of certificates
empty_refused : certificates_ok [] ≡ false
empty_refused = certificates_ok-body_ok [] ∙ body_ok-short 929 254 [] (omega arith)

-- a card with certificates has their file
ok_has : (img : List ℕ) → well_formed img ≡ true → certificates_ok (card_body img) ≡ true → has img 0x011A ≡ true
ok_has img o c =
    by_cases (has img 0x011A) (λ h. h)
    (λ h. false-true (sym empty_refused ∙ ap certificates_ok (sym (body_lacking img 0x011A h) ∙ sym (card_body-is img o)) ∙ c))

has_ok : (img : List ℕ) → well_formed img ≡ true → has img 0x011A ≡ true → certificates_ok (card_body img) ≡ true
unfolding certificates_ok
has_ok img o h = ap certificates_ok (card_body-is img o) ∙ body-well_formed img 0x011A o h

only_card : (l : Located) → which_in (certificate_result l) ≡ 1 → (s : Stretch) × (l ≡ Card s)
only_card (Card s) e = (s, refl)
only_card (Desk s) e = absurd (omega (arith, which_read (Desk s)))
only_card NotThere e = absurd (omega (arith, which_read NotThere))
only_card Refused e = absurd (omega (arith, which_read Refused))

-- over further calls the list of certificates goes on
card_grown : (img : List ℕ) (calls : List CCall) → well_formed img ≡ true
    → (more : List (List ℕ)) × (records (card_body (after_c img calls)) ≡ records (card_body img) ++ more)
unfolding card_body
card_grown img calls o = (additions_c 0x011A img calls, lent_grown img 0x011A calls o certificates_records)

-- what a result that names the card tells of its bytes
card_bytes : (xs : List ℕ) (s : Stretch) → s.start < 262144 → s.length < 1024 → certificate_bytes xs (certificate_result (Card s)) ≡ part xs s.start s.length
unfolding certificate_bytes certificate_result
card_bytes xs s a b =
    let t = tells (certificate_result (Card s)) 0 1 s.start s.length (omega arith) a b refl in ap₂ (λ (x y : ℕ). part xs x y) t.place t.length

-- from one image to a later one
kept_from : (img desk other : List ℕ) (later : List CCall) (n : ℕ) → well_formed img ≡ true → body_ok 929 254 other ≡ true → which_in (certificate_on img desk n) ≡ 1
    → (certificate_on (after_c img later) other n ≡ certificate_on img desk n)
    × (certificate_bytes (card_body (after_c img later)) (certificate_on img desk n) ≡ certificate_bytes (card_body img) (certificate_on img desk n))
unfolding certificate_on
kept_from img desk other later n o ok w =
    let h = c_holds img later o in
    let f = only_card (located (card_body img) desk n) w in
    let s = f.0 in
    let t = told (card_body img) desk n (Card s) f.1 in
    let g = card_grown img later o in
    let d = has_ok (after_c img later) h.well (h.files 0x011A (ok_has img o t.0.0)) in
    let k = located-kept (card_body img) (card_body (after_c img later)) g.0 t.0.0 d g.1 desk other n s (certificates_ok-body_ok other ∙ ok) f.1 in
    let q = t.2 in (
      ap certificate_result (k.0 ∙ sym f.1),
      rw f.1 (card_bytes (card_body (after_c img later)) s q.start_small q.length_small ∙ k.1 ∙ sym (card_bytes (card_body img) s q.start_small q.length_small)),
    )

pub c_certificate-kept : CCertificateKept
unfolding certificate_on
c_certificate-kept img desk other calls later n o ok w =
    let h = c_holds img calls o in
    let now = after_c img calls in
    let k = kept_from now desk other later n h.well ok w in
    let e = after_c-append img calls later in
    record {
      result_kept = ap (λ (l : List ℕ). certificate_on l other n) e ∙ k.0;
      bytes_kept = ap (λ (l : List ℕ). certificate_bytes (card_body l) (certificate_on now desk n)) e ∙ k.1;
      history = ((c_certificate (card_body now) desk n).card_sound w).bytes
          ∙ ap (λ (rs : List (List ℕ)). nth rs n) (card_records now h.well ∙ h.records 0x011A certificates_records);
    }

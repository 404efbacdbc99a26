-- The certificate that a stamp names by its record number, of two bodies of travel certificates: the card's, and the desk's own copy of one.
use Rattle.std.specs.Prelude.{ℕ, ◌+◌, ◌-◌, ◌≡◌, Bool, List, [], ◌∷◌, leb}
use Rattle.std.specs.Borrow.{Bor}
use Rattle.base.specs.Choice.{if_else, all_of}
use Rattle.base.specs.Lent.{PartOf}
use Rattle.store_records.specs.Little.{le16}
use Rattle.store_records.specs.Body.{count, place, records, nth}
use Rattle.store_kinds.specs.Rules.{kind_ok}
use Rattle.store_certificates.specs.declared.Stretch.{Stretch}
use Rattle.store_certificates.specs.declared.Located.{Located}
use Rattle.store_certificates.specs.declared.Located.TheVariants.{Card, Desk, Missing, Refused}

-- a body of travel certificates is one of kind 011A [P2]
unfoldable pub certificates_ok : List ℕ → Bool
certificates_ok xs = kind_ok 0x011A xs

-- the body has a record of that number; the first is number 1 [P3]
unfoldable pub has_number : List ℕ → ℕ → Bool
has_number xs n = all_of (leb 1 n ∷ leb n (count xs) ∷ [])

-- where record n stands in the body: its first byte is behind its length [P5]
unfoldable pub stretch_of : List ℕ → ℕ → Stretch
stretch_of xs n = record { start = place xs (n - 1) + 2; length = le16 xs (place xs (n - 1)) }

-- the refusal before all; then the card's body, then the desk's [P2] [P3]
unfoldable pub located : List ℕ → List ℕ → ℕ → Located
located card desk n =
    if_else (all_of (certificates_ok card ∷ certificates_ok desk ∷ []))
    (if_else (has_number card n) (Card (stretch_of card n)) (if_else (has_number desk n) (Desk (stretch_of desk n)) Missing))
    Refused

-- what is returned, r, where the two bodies are lent: record n, as the part of its body that it is; an empty part of the card's where there
-- is none [P5]
abbrev pub CertificatePart : Located → ℕ → Bor (List ℕ) → Bor (List ℕ) → Bor (List ℕ) → Type 0
CertificatePart (Card s) n card desk r = (r.now ≡ nth (records card.now) n) × PartOf card s.start s.length r
CertificatePart (Desk s) n card desk r = (r.now ≡ nth (records desk.now) n) × PartOf desk s.start s.length r
CertificatePart Missing n card desk r = (r.now ≡ []) × PartOf card 0 0 r
CertificatePart Refused n card desk r = (r.now ≡ []) × PartOf card 0 0 r

-- ---- the numbers of an answer

-- 9 for the refusal, and else none [P2] [C2]
abbrev pub certificate_refusal : Located → ℕ
certificate_refusal (Card s) = 0
certificate_refusal (Desk s) = 0
certificate_refusal Missing = 0
certificate_refusal Refused = 9

-- which of the two bodies: 1 the card's, 2 the desk's; 0 where there is no certificate [P6] [C2]
abbrev pub which_body : Located → ℕ
which_body (Card s) = 1
which_body (Desk s) = 2
which_body Missing = 0
which_body Refused = 0

-- where the certificate stands in its body; no bytes at 0 where there is no certificate [P6]
abbrev pub certificate_stretch : Located → Stretch
certificate_stretch (Card s) = s
certificate_stretch (Desk s) = s
certificate_stretch Missing = record { start = 0; length = 0 }
certificate_stretch Refused = record { start = 0; length = 0 }

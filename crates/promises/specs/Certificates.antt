-- The certificate that a stamp names, as a desk asks for it: `malquindo_file` tells where the card's body of travel certificates stands, and
-- `malquindo_certificate` looks for the number there and in the desk's own copy. Each promise is a type; the theorem of the same name is in
-- ../proofs/Promises.antt. Read before: Linked.antt, Bodies.antt.
use Rattle.std.specs.Prelude.{ℕ, ◌+◌, ◌-◌, ◌*◌, ◌/◌, ◌%◌, ◌≤◌, ◌≡◌, true, false, ◌&&◌, length}
use mathlib.Core.List.{List, [], ◌∷◌, ◌++◌, Memᴰ}
use Rattle.base.specs.Bytes.{part}
use Rattle.store_records.specs.Body.{place, records, nth, body_ok}
use Rattle.store_image.specs.Image.{well_formed}
use Rattle.store_certificates.specs.Certificates.{located}
use Rattle.malquindo.specs.Face.{certificate_result}
use Rattle.promises.specs.Linked.{refusal_in, CCall, after_c, history_c}
use Rattle.promises.specs.Bodies.{lent_body, IsNumber}

-- ---- results: `malquindo_certificate_which`, `…_place`, `…_length`

-- [X12]
unfoldable pub which_in : ℕ → ℕ
which_in r = r / 268435456 % 16

-- [X12]
unfoldable pub certificate_place_in : ℕ → ℕ
certificate_place_in r = r / 1024 % 262144

-- [X12]
unfoldable pub certificate_length_in : ℕ → ℕ
certificate_length_in r = r % 1024

-- ---- which certificate it is

-- the bytes of a body that the result r tells [X12]
unfoldable pub certificate_bytes : List ℕ → ℕ → List ℕ
certificate_bytes xs r = part xs (certificate_place_in r) (certificate_length_in r)

-- the result r tells where record n of the body xs stands [P5] [X12]
pub record StandsC (xs : List ℕ) (n r : ℕ) : Type 0 where
  pub there : IsNumber xs n
  -- behind the length of that record, and within the body
  pub behind : certificate_place_in r ≡ place xs (n - 1) + 2
  pub within : certificate_place_in r + certificate_length_in r ≤ length xs
  pub some : 1 ≤ certificate_length_in r
  pub bytes : certificate_bytes xs r ≡ nth (records xs) n

-- what the result r of `malquindo_certificate` tells, for any two bodies and the reference n [P2] [P3] [P4] [P6]
pub record CertificateC (card desk : List ℕ) (n r : ℕ) : Type 0 where
  -- 9 exactly where one of the two is not well formed, with longest record 929 and most records 254; there is no other refusal
  pub refused_complete : (body_ok 929 254 card && body_ok 929 254 desk) ≡ false → r ≡ 9 * 4294967296
  pub refused_sound : 1 ≤ refusal_in r → (body_ok 929 254 card && body_ok 929 254 desk) ≡ false
  -- the card's, the desk's, or neither
  pub which_known : Memᴰ (which_in r) (0 ∷ 1 ∷ 2 ∷ [])
  -- the card's exactly where the card's body has the number
  pub card_complete : refusal_in r ≡ 0 → IsNumber card n → which_in r ≡ 1
  pub card_sound : which_in r ≡ 1 → StandsC card n r
  -- the desk's exactly where the desk's body has it and the card's has not
  pub desk_complete : refusal_in r ≡ 0 → (IsNumber card n → ⊥) → IsNumber desk n → which_in r ≡ 2
  pub desk_sound : which_in r ≡ 2 → (IsNumber card n → ⊥) × StandsC desk n r
  -- missing exactly where neither has it
  pub missing_complete : refusal_in r ≡ 0 → (IsNumber card n → ⊥) → (IsNumber desk n → ⊥) → r ≡ 0
  pub missing_sound : r ≡ 0 → (IsNumber card n → ⊥) × (IsNumber desk n → ⊥)
  -- 00 and FF are always missing
  pub zero_missing : refusal_in r ≡ 0 → n ≡ 0x00 → r ≡ 0
  pub ones_missing : refusal_in r ≡ 0 → n ≡ 0xFF → r ≡ 0

-- [X12]
abbrev pub CCertificate : Type 0
CCertificate = (card desk : List ℕ) (n : ℕ) → CertificateC card desk n (certificate_result (located card desk n))

-- ---- "is record 7 still the record 7 that was written?", as the desk asks it

-- the card's body of travel certificates, where `malquindo_file` tells that it stands [P1] [X11]
unfoldable pub card_body : List ℕ → List ℕ
card_body img = lent_body img 0x011A

-- what `malquindo_certificate` answers for that body, the desk's body and the reference n [P1] [X12]
unfoldable pub certificate_on : List ℕ → List ℕ → ℕ → ℕ
certificate_on img desk n = certificate_result (located (card_body img) desk n)

-- a reference that finds a certificate on the card finds, after any further calls, the same certificate there, whatever well-formed copy
-- the desk has by then: the same number is answered, and the same bytes stand there, those of the history [P7]
pub record CertificateKept (img : List ℕ) (calls later : List CCall) (desk other : List ℕ) (n : ℕ) : Type 0 where
  pub result_kept : certificate_on (after_c img (calls ++ later)) other n ≡ certificate_on (after_c img calls) desk n
  pub bytes_kept : certificate_bytes (card_body (after_c img (calls ++ later))) (certificate_on (after_c img calls) desk n)
      ≡ certificate_bytes (card_body (after_c img calls)) (certificate_on (after_c img calls) desk n)
  pub history : certificate_bytes (card_body (after_c img calls)) (certificate_on (after_c img calls) desk n) ≡ nth (history_c 0x011A img calls) n

-- [P7]
abbrev pub CCertificateKept : Type 0
CCertificateKept =
    (img desk other : List ℕ) (calls later : List CCall) (n : ℕ)
    → well_formed img ≡ true
    → body_ok 929 254 other ≡ true
    → which_in (certificate_on (after_c img calls) desk n) ≡ 1
    → CertificateKept img calls later desk other n

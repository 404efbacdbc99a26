-- The card to try, m1 to m10: lay it beside clause T1 of docs/RULES.md. Commands and answers stand here as bytes, and every byte of image
-- and response afterwards is said. `Worked` is the whole statement; the theorem `worked` is in ../proofs/Worked.antt.
use Rattle.std.specs.Prelude.{ℕ, ◌+◌, ◌-◌, ◌/◌, ◌%◌, ◌≡◌, List, [], ◌∷◌, ◌++◌, length, take, replicate, Ok}
use Rattle.machine_session.specs.Session.{opened}
use Rattle.machine_session.specs.declared.Place.{Place}
use Rattle.machine_session.specs.declared.Place.TheVariants.{Nowhere, OnRecord}
use Rattle.machine_session.specs.declared.Session.{Session}
use Rattle.machine_chain.specs.Chain.{NoChain}
use Rattle.machine_answer.specs.Outcome.{Outcome}
use Rattle.machine.specs.Step.{step}

-- ---- the card and the session

-- records one behind the other, each behind its length [T1]
unfoldable pub records_in_row : List (List ℕ) → List ℕ
records_in_row [] = []
records_in_row (r ∷ rs) = length r ∷ 0 ∷ (r ++ records_in_row rs)

-- a section with a body of 40 bytes: the count, the records, zeros [T1]
unfoldable pub section_of40 : ℕ → List (List ℕ) → List ℕ
section_of40 k rs = (40 ∷ 0 ∷ 0 ∷ 0 ∷ k % 256 ∷ k / 256 ∷ []) ++ take 40 ((length rs ∷ 0 ∷ records_in_row rs) ++ replicate 40 0)

-- 0101 with these records, 0102 and 011A empty [T1]
unfoldable pub card_with : List (List ℕ) → List ℕ
card_with rs = section_of40 0x0101 rs ++ (section_of40 0x0102 [] ++ section_of40 0x011A [])

-- three certificates with these flags, and with every other right [T1]
unfoldable pub chain_of : ℕ → ℕ → ℕ → List ℕ
chain_of a b c = (a ∷ replicate 19 0xFF) ++ ((b ∷ replicate 19 0xFF) ++ (c ∷ replicate 19 0xFF))

-- the session that all rights open [T1]
unfoldable pub all_rights : Session
all_rights = opened (chain_of 0xFF 0xFF 0xFF)

-- the same rights in the travel application, at a place [T1]
unfoldable pub travel_at : Place → Session
travel_at p = record { rights = all_rights.rights; application = 1; place = p }

-- ---- a command and its answer

-- a command; data and status word that it answers; then the place of the session and the records of 0101 [T1]
pub record Exchange : Type 0 where
  pub command : List ℕ
  pub answers : List ℕ
  pub status : ℕ
  pub place : Place
  pub holds : List (List ℕ)

-- [T1]
abbrev pub exchange : List ℕ → List ℕ → ℕ → Place → List (List ℕ) → Exchange
exchange c d w p rs = record { command = c; answers = d; status = w; place = p; holds = rs }

-- 2,050 zeros were lent: now they begin with the data, SW1 and SW2; the length counts these [T1]
unfoldable pub replies_with : List ℕ → ℕ → Session → List ℕ → Outcome
replies_with d w s img = record {
  answer = record { verdict = (Ok tt); length = length d + 2; status = w; session = s };
  image = img;
  buffer = d ++ (w / 256 ∷ w % 256 ∷ replicate (2048 - length d) 0);
}

-- a command on an image in a session without a chain, and what it comes to [T1]
abbrev pub Replies : List ℕ → Session → List ℕ → Outcome → Type 0
Replies img s c o = step img s NoChain c (replicate 2050 0) ≡ o

-- commands one after the other: each starts with the image and the session that the one before left [T1]
abbrev pub InTurn : List ℕ → Session → List Exchange → Type 0
InTurn img s [] = Unit {0}
InTurn img s (e ∷ es) =
    let img' = card_with e.holds in
    let s' = travel_at e.place in
    Replies img s e.command (replies_with e.answers e.status s' img') × InTurn img' s' es

-- ---- the table

-- two records [T1]
abbrev pub usa : List ℕ
usa = 0x5F ∷ 0x44 ∷ 0x03 ∷ 0x55 ∷ 0x53 ∷ 0x41 ∷ []

-- [T1]
abbrev pub fra : List ℕ
fra = 0x5F ∷ 0x44 ∷ 0x03 ∷ 0x46 ∷ 0x52 ∷ 0x41 ∷ []

-- m1: SELECT of the travel application [T1]
abbrev pub select_travel : List ℕ
select_travel = 0x00 ∷ 0xA4 ∷ 0x04 ∷ 0x0C ∷ 0x07 ∷ 0xA0 ∷ 0x00 ∷ 0x00 ∷ 0x02 ∷ 0x47 ∷ 0x20 ∷ 0x01 ∷ []

-- m6 and m7: a search of the file with reference v, for 46 52 41 in three bytes from an offset on [T1]
abbrev pub search_from : ℕ → ℕ → List ℕ
search_from v o =
    0x00 ∷ 0xA2 ∷ 0x00 ∷ 0xF8 ∷ 0x1C
    ∷ 0x7F ∷ 0x76 ∷ 0x19 ∷ 0x51 ∷ 0x01 ∷ v ∷ 0xA1 ∷ 0x0B ∷ 0x80 ∷ 0x01 ∷ 0x00 ∷ 0xB0 ∷ 0x06 ∷ 0x02 ∷ 0x01 ∷ o ∷ 0x02 ∷ 0x01 ∷ 0x03
    ∷ 0xA3 ∷ 0x07 ∷ 0xB1 ∷ 0x05 ∷ 0x81 ∷ 0x03 ∷ 0x46 ∷ 0x52 ∷ 0x41
    ∷ 0x00 ∷ []

-- [T1]
abbrev pub exchanges : List Exchange
exchanges =
    -- m1
    exchange select_travel [] 0x9000 Nowhere []
    -- m2
    ∷ exchange ((0x00 ∷ 0xE2 ∷ 0x00 ∷ 0x08 ∷ 0x06 ∷ []) ++ usa) [] 0x9000 (OnRecord 0x0101 1) (usa ∷ [])
    -- m3
    ∷ exchange ((0x00 ∷ 0xE2 ∷ 0x00 ∷ 0x08 ∷ 0x06 ∷ []) ++ fra) [] 0x9000 (OnRecord 0x0101 2) (usa ∷ fra ∷ [])
    -- m4
    ∷ exchange (0x00 ∷ 0xB2 ∷ 0x01 ∷ 0x05 ∷ 0x00 ∷ 0x00 ∷ 0x00 ∷ []) (usa ++ fra) 0x9000 (OnRecord 0x0101 2) (usa ∷ fra ∷ [])
    -- m5
    ∷ exchange (0x00 ∷ 0xB2 ∷ 0x03 ∷ 0x04 ∷ 0x00 ∷ 0x00 ∷ 0x00 ∷ []) [] 0x6A83 (OnRecord 0x0101 2) (usa ∷ fra ∷ [])
    -- m6
    ∷ exchange (search_from 0x01 0x03) (0x7F ∷ 0x76 ∷ 0x06 ∷ 0x51 ∷ 0x01 ∷ 0x01 ∷ 0x02 ∷ 0x01 ∷ 0x02 ∷ []) 0x9000
    (OnRecord 0x0101 2) (usa ∷ fra ∷ [])
    -- m6 with the short id in b8 to b4
    ∷ exchange (search_from 0x08 0x03) (0x7F ∷ 0x76 ∷ 0x06 ∷ 0x51 ∷ 0x01 ∷ 0x08 ∷ 0x02 ∷ 0x01 ∷ 0x02 ∷ []) 0x9000
    (OnRecord 0x0101 2) (usa ∷ fra ∷ [])
    -- m7
    ∷ exchange (search_from 0x01 0x02) [] 0x6282 (OnRecord 0x0101 2) (usa ∷ fra ∷ [])
    -- m8
    ∷ exchange (0x80 ∷ 0x5E ∷ 0x01 ∷ 0x07 ∷ 0x04 ∷ 0x51 ∷ 0x02 ∷ 0x01 ∷ 0x01 ∷ 0x00 ∷ [])
    (0x7F ∷ 0x78 ∷ 0x09 ∷ 0x81 ∷ 0x01 ∷ 0x22 ∷ 0x82 ∷ 0x01 ∷ 0x00 ∷ 0x83 ∷ 0x01 ∷ 0x02 ∷ []) 0x9000
    (OnRecord 0x0101 2) (usa ∷ fra ∷ [])
    -- m9: appends of 21, 20, 392 and 391 bytes
    ∷ exchange ((0x00 ∷ 0xE2 ∷ 0x00 ∷ 0x08 ∷ 0x15 ∷ []) ++ replicate 21 0x11) [] 0x6A84 (OnRecord 0x0101 2) (usa ∷ fra ∷ [])
    ∷ exchange ((0x00 ∷ 0xE2 ∷ 0x00 ∷ 0x08 ∷ 0x14 ∷ []) ++ replicate 20 0x11) [] 0x9000
    (OnRecord 0x0101 3) (usa ∷ fra ∷ replicate 20 0x11 ∷ [])
    ∷ exchange ((0x00 ∷ 0xE2 ∷ 0x00 ∷ 0x08 ∷ 0x00 ∷ 0x01 ∷ 0x88 ∷ []) ++ replicate 392 0x11) [] 0x6700
    (OnRecord 0x0101 3) (usa ∷ fra ∷ replicate 20 0x11 ∷ [])
    ∷ exchange ((0x00 ∷ 0xE2 ∷ 0x00 ∷ 0x08 ∷ 0x00 ∷ 0x01 ∷ 0x87 ∷ []) ++ replicate 391 0x11) [] 0x6A84
    (OnRecord 0x0101 3) (usa ∷ fra ∷ replicate 20 0x11 ∷ [])
    -- m10
    ∷ exchange (0x00 ∷ 0xB2 ∷ 0x01 ∷ 0x04 ∷ 0x00 ∷ []) [] 0x6700 (OnRecord 0x0101 3) (usa ∷ fra ∷ replicate 20 0x11 ∷ [])
    ∷ []

-- m1 with certificates of these flags: 6982, and image and session stay [T1]
abbrev pub NotSelected : ℕ → ℕ → ℕ → Type 0
NotSelected a b c =
    let s = opened (chain_of a b c) in
    Replies (card_with []) s select_travel (replies_with [] 0x6982 s (card_with []))

-- the whole table: m1 where the first, the second or the third certificate lacks the travel flag; then m1 to m10 [T1]
abbrev pub Worked : Type 0
Worked =
    NotSelected 0xFE 0xFF 0xFF × NotSelected 0xFF 0xFE 0xFF × NotSelected 0xFF 0xFF 0xFE
    × InTurn (card_with []) all_rights exchanges

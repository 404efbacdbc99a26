-- Table 11: what a stamp is, how it is written, and where its fields then stand. Written apart from the reader.
use Rattle.std.specs.Prelude.{ℕ, ◌+◌, ◌≤◌, ◌≡◌, true, List, [], ◌∷◌, ◌++◌, length}
use Rattle.objects_writer.specs.Writing.{tag_bytes, length_bytes, tlv}
use Rattle.objects_reader.specs.Encoding.{Perhaps, absent, present, perhaps, place_of}
use Rattle.objects_stamp.specs.declared.chars.Chars.{Chars}
use Rattle.objects_stamp.specs.declared.chars.Chars.TheVariants.{Letters, Digits, Text, Binary, Reference}
use Rattle.objects_stamp.specs.Chars.{allows_all}

-- the fields, in the order of the table; those that may be absent are `Perhaps` [TR1]
pub record Stamp : Type 0 where
  pub copy : List ℕ
  pub state : List ℕ
  pub visas : Perhaps
  pub date : List ℕ
  pub authority : List ℕ
  pub location : List ℕ
  pub inspector : List ℕ
  pub result : Perhaps
  pub mode : Perhaps
  pub duration : Perhaps
  pub conditions : Perhaps
  pub signature : List ℕ
  pub reference : List ℕ

-- ---- which fields the table allows

-- a value of lo to hi bytes, each of which the characters have [TR3]
pub record Field (c : Chars) (lo hi : ℕ) (v : List ℕ) : Type 0 where
  pub least : lo ≤ length v
  pub most : length v ≤ hi
  pub chars : allows_all c v ≡ true

-- such a value, or none [TR3]
abbrev pub Optional : Chars → ℕ → ℕ → Perhaps → Type 0
Optional c lo hi absent = Unit {0}
Optional c lo hi (present v) = Field c lo hi v

-- the columns of the table, row by row; and the State inside is the copy's [TR3] [TR4]
pub record Lawful (x : Stamp) : Type 0 where
  pub copy : Field Letters 3 3 x.copy
  pub state : Field Letters 3 3 x.state
  pub same : x.state ≡ x.copy
  pub visas : Optional Text 1 50 x.visas
  pub date : Field Digits 8 8 x.date
  pub authority : Field Text 1 10 x.authority
  pub location : Field Text 1 10 x.location
  pub inspector : Field Text 1 20 x.inspector
  pub result : Optional Text 1 50 x.result
  pub mode : Optional Letters 1 1 x.mode
  pub duration : Optional Binary 1 2 x.duration
  pub conditions : Optional Text 1 50 x.conditions
  pub signature : Field Binary 1 140 x.signature
  pub reference : Field Reference 1 1 x.reference

-- ---- how they are written

-- a tag, and the value of its object, which may be absent [TR5]
pub record Piece : Type 0 where
  pub tag : ℕ
  pub value : Perhaps

-- [TR5]
abbrev pub piece : ℕ → Perhaps → Piece
piece t o = record { tag = t; value = o }

-- before `73` [TR1] [TR5]
abbrev pub copy_piece : Stamp → List Piece
copy_piece x = piece 0x5F44 (present x.copy) ∷ []

-- inside `73`, the part that is signed [TR1] [TR5]
abbrev pub signed_pieces : Stamp → List Piece
signed_pieces x =
    piece 0x5F44 (present x.state)
    ∷ piece 0x5F4C x.visas
    ∷ piece 0x5F45 (present x.date)
    ∷ piece 0x5F4B (present x.authority)
    ∷ piece 0x5F46 (present x.location)
    ∷ piece 0x5F4A (present x.inspector)
    ∷ piece 0x5F4D x.result
    ∷ piece 0x5F49 x.mode
    ∷ piece 0x5F48 x.duration
    ∷ piece 0x5F4E x.conditions
    ∷ []

-- behind `73` [TR1] [TR5]
abbrev pub last_pieces : Stamp → List Piece
last_pieces x = piece 0x5F37 (present x.signature) ∷ piece 0x5F38 (present x.reference) ∷ []

-- objects one behind the other, an absent one left out [TR5]
abbrev pub piece_data : List Piece → List ℕ
piece_data [] = []
piece_data (p ∷ ps) = perhaps p.tag p.value ++ piece_data ps

-- the bytes of a stamp [TR5]
unfoldable pub stamp_data : Stamp → List ℕ
stamp_data x = piece_data (copy_piece x) ++ (tlv 0x73 (piece_data (signed_pieces x)) ++ piece_data (last_pieces x))

-- ---- where they stand

-- of objects that begin at `at`: two numbers for each [TR6]
abbrev pub piece_places : ℕ → List Piece → List ℕ
piece_places at [] = []
piece_places at (p ∷ ps) = place_of at p.tag p.value ++ piece_places (at + length (perhaps p.tag p.value)) ps

-- of a stamp: 26 numbers [TR6]
unfoldable pub stamp_places : Stamp → List ℕ
stamp_places x =
    let a = length (piece_data (copy_piece x)) in
    let n = length (piece_data (signed_pieces x)) in
    piece_places 0 (copy_piece x)
    ++ (piece_places (a + (length (tag_bytes 0x73) + length (length_bytes n))) (signed_pieces x)
    ++ piece_places (a + length (tlv 0x73 (piece_data (signed_pieces x)))) (last_pieces x))

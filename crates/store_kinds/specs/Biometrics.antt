-- The body of a biometrics file: its state in one byte, how many bytes are written in four, little-endian, then the room for them.
use Rattle.std.specs.Prelude.{ℕ, ◌+◌, ◌-◌, max, Bool, List, [], ◌∷◌, length, get_or, set, leb}
use Rattle.std.proofs.lemmas.List.Edits.{sets}
use Rattle.base.specs.Choice.{if_else, all_of}
use Rattle.base.specs.Bytes.{part}
use Rattle.store_records.specs.Little.{le32, bytes32}

-- 0 Deactivated, 1 Activated [N1]
unfoldable pub state : List ℕ → ℕ
state xs = get_or xs 0 0

-- how many bytes are written [N2]
unfoldable pub written : List ℕ → ℕ
written xs = le32 xs 1

-- how many bytes there is room for [N3]
unfoldable pub room : List ℕ → ℕ
room xs = length xs - 5

-- the bytes written [N2]
unfoldable pub written_bytes : List ℕ → List ℕ
written_bytes xs = part xs 5 (written xs)

-- the most bytes that a file may have room for [N4]
abbrev pub largest_room : ℕ
largest_room = 131072

-- the state is one of the two, the room is not too large, and no more is written than there is room for [N4]
unfoldable pub bio_ok : List ℕ → Bool
bio_ok xs = all_of (leb 5 (length xs) ∷ leb (state xs) 1 ∷ leb (room xs) largest_room ∷ leb (written xs) (room xs) ∷ [])

-- ---- a write

-- n bytes can be written from `off` on: not behind a gap, and within the room [N5]
unfoldable pub updatable : List ℕ → ℕ → ℕ → Bool
updatable xs off n = all_of (bio_ok xs ∷ leb off (written xs) ∷ leb (off + n) (room xs) ∷ [])

-- the body with d at `off`, and then the written length, which grows to the end of d and never shrinks [N6]
unfoldable pub updated : List ℕ → ℕ → List ℕ → List ℕ
updated xs off d = sets (sets xs (5 + off) d) 1 (bytes32 (max (written xs) (off + length d)))

-- the body after a write, which is the body as it was where it cannot take it [N5] [N6]
unfoldable pub update : List ℕ → ℕ → List ℕ → List ℕ
update xs off d = if_else (updatable xs off (length d)) (updated xs off d) xs

-- the body with state 1, where it is one of biometrics [N7]
unfoldable pub activate : List ℕ → List ℕ
activate xs = if_else (bio_ok xs) (set xs 0 1) xs

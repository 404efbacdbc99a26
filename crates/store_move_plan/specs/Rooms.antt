-- A list of kinds with the lengths of their rooms, and the image that it lays out. A row has the bytes of a section's head, so that len_at and
-- kind_at read it, and row i stands at 6 · i.
use Rattle.std.specs.Prelude.{ℕ, zero, suc, ◌-◌, ◌*◌, ◌/◌, ◌%◌, Bool, List, [], ◌∷◌, ◌++◌, length, replicate, eqb, Option, Some, None}
use Rattle.base.specs.Choice.{if_else, all_of}
use Rattle.base.specs.Bytes.{part}
use Rattle.store_image.specs.Image.{len_at, kind_at, well_formed}

-- how many rows are whole [M1]
unfoldable pub rows : List ℕ → ℕ
rows list = length list / 6

-- row i: the length of its room, and its kind [M1]
abbrev pub row_room : List ℕ → ℕ → ℕ
row_room list i = len_at list (6 * i)

-- [M1]
abbrev pub row_kind : List ℕ → ℕ → ℕ
row_kind list i = kind_at list (6 * i)

-- n bytes that are zero [M2]
abbrev pub zeros : ℕ → List ℕ
zeros n = replicate n 0

-- a room of n bytes with xs in it, and zeros behind [M2]
unfoldable pub filled : ℕ → List ℕ → List ℕ
filled n xs = xs ++ zeros (n - length xs)

-- the section of row i, where c says what a kind's body holds [M2]
unfoldable pub section : (ℕ → List ℕ) → List ℕ → ℕ → List ℕ
section c list i = part list (6 * i) 6 ++ filled (row_room list i) (c (row_kind list i))

-- the sections of the first n rows [M2]
unfoldable pub sections : (ℕ → List ℕ) → List ℕ → ℕ → List ℕ
sections c list zero = []
sections c list (suc n) = sections c list n ++ section c list n

-- the image of the whole list [M2]
unfoldable pub laid : (ℕ → List ℕ) → List ℕ → List ℕ
laid c list = sections c list (rows list)

-- no file holds anything [M5]
abbrev pub no_content : ℕ → List ℕ
no_content k = []

-- the image with all its files empty [M5]
unfoldable pub blank : List ℕ → List ℕ
blank list = laid no_content list

-- the list lays out an image: its last row is whole, and the image with all files empty is well formed [M5]
unfoldable pub lays : List ℕ → Bool
lays list = all_of (eqb (length list % 6) 0 ∷ well_formed (blank list) ∷ [])

-- that image's length, where it does [M5]
unfoldable pub plan : List ℕ → Option ℕ
plan list = if_else (lays list) (Some (length (blank list))) None

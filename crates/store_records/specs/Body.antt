-- The body of a record file: the number of records in two bytes, then each record with its length in two bytes before it. What lies behind
-- the last record is free. Numbers are little-endian.
use Rattle.std.specs.Prelude.{ℕ, zero, suc, ◌+◌, ◌/◌, ◌%◌, Bool, true, ◌&&◌, List, [], ◌∷◌, ◌++◌, length, get_or, set, leb, ltb}
use Rattle.std.proofs.lemmas.List.Edits.{sets}
use Rattle.base.specs.Choice.{if_else, all_of}
use Rattle.base.specs.Bytes.{part}
use Rattle.store_records.specs.Little.{le16, bytes16}

-- how many records [R1]
unfoldable pub count : List ℕ → ℕ
count xs = le16 xs 0

-- the place behind the record whose length stands at p [R2]
abbrev pub next_place : List ℕ → ℕ → ℕ
next_place xs p = p + 2 + le16 xs p

-- the same, but a walk past the end stays where it is [R2] [V8]
unfoldable pub behind : List ℕ → ℕ → ℕ
behind xs p = if_else (ltb p (length xs)) (next_place xs p) p

-- the place of the record behind the first n, which is where its length stands [R2]
unfoldable pub place : List ℕ → ℕ → ℕ
place xs zero = 2
place xs (suc n) = next_place xs (place xs n)

-- the bytes of the record whose length stands at p [R2]
abbrev pub record_at : List ℕ → ℕ → List ℕ
record_at xs p = part xs (p + 2) (le16 xs p)

-- the first n records [R3]
unfoldable pub firsts : List ℕ → ℕ → List (List ℕ)
firsts xs zero = []
firsts xs (suc n) = firsts xs n ++ (record_at xs (place xs n) ∷ [])

-- the records, in order [R3]
unfoldable pub records : List ℕ → List (List ℕ)
records xs = firsts xs (count xs)

-- the nth of a list of records, counted from 1; nothing where there is none [R3]
unfoldable pub nth : List (List ℕ) → ℕ → List ℕ
nth rs zero = []
nth rs (suc n) = get_or rs n []

-- the bytes used, which is where the free room begins [R4]
unfoldable pub used : List ℕ → ℕ
used xs = place xs (count xs)

-- a record of n bytes and its length fit into the free room [R6]
unfoldable pub append_fits : List ℕ → ℕ → Bool
append_fits xs n = leb (used xs + 2 + n) (length xs)

-- a record of 1 to longest bytes stands whole at p [R5]
unfoldable pub ok_at : ℕ → List ℕ → ℕ → Bool
ok_at longest xs p = all_of (leb 1 (le16 xs p) ∷ leb (le16 xs p) longest ∷ leb (next_place xs p) (length xs) ∷ [])

-- so do the first n records [R5]
unfoldable pub ok_to : ℕ → List ℕ → ℕ → Bool
ok_to longest xs zero = true
ok_to longest xs (suc n) = ok_to longest xs n && ok_at longest xs (place xs n)

-- a body of at most `most` records of 1 to `longest` bytes [R5]
unfoldable pub body_ok : ℕ → ℕ → List ℕ → Bool
body_ok longest most xs = all_of (leb 2 (length xs) ∷ leb (count xs) most ∷ ok_to longest xs (count xs) ∷ [])

-- ---- an append

-- a record of n bytes can be written: it fits, and its length and the new count have two bytes [R8]
unfoldable pub appendable : List ℕ → ℕ → Bool
appendable xs n = all_of (append_fits xs n ∷ ltb n 65536 ∷ ltb (count xs + 1) 65536 ∷ [])

-- a record as it is written [R2] [R7]
unfoldable pub record_bytes : List ℕ → List ℕ
record_bytes d = bytes16 (length d) ++ d

-- the body with the record behind the last one, and then the count, its low byte last [R7]
unfoldable pub appended : List ℕ → List ℕ → List ℕ
appended xs d = set (set (sets xs (used xs) (record_bytes d)) 1 ((count xs + 1) / 256 % 256)) 0 ((count xs + 1) % 256)

-- the body after an append, which is the body as it was where it cannot take the record [R7] [R8]
unfoldable pub append : List ℕ → List ℕ → List ℕ
append xs d = if_else (appendable xs (length d)) (appended xs d) xs

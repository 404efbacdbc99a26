-- A session as 25 bytes: 20 bytes of rights, the application, the number of the place, the file's id (little-endian), the record's
-- number. What a place does not use is zero.
use Rattle.std.specs.Prelude.{ℕ, ◌/◌, ◌%◌, Bool, true, List, [], ◌∷◌, ◌++◌, length, get_or, leb, eqb}
use Rattle.base.specs.Choice.{if_else, all_of}
use Rattle.store_records.specs.Little.{le16}
use Rattle.machine_rights.specs.Chain.{held}
use Rattle.machine_session.specs.Session.{place_number, place_file, place_record}
use Rattle.machine_session.specs.declared.Place.{Place}
use Rattle.machine_session.specs.declared.Place.TheVariants.{Nowhere, OnFile, OnRecord}
use Rattle.machine_session.specs.declared.Session.{Session}

-- ---- written

-- the application, the place, the file id, the record number [X1]
unfoldable pub place_bytes : ℕ → Place → List ℕ
place_bytes a p = a % 256 ∷ place_number p ∷ place_file p % 256 ∷ place_file p / 256 % 256 ∷ place_record p % 256 ∷ []

-- [X1]
unfoldable pub session_bytes : Session → List ℕ
session_bytes s =
    (s.rights.flags ∷ s.rights.travel ∷ s.rights.visa ∷ []) ++ (s.rights.biometrics ++ place_bytes s.application s.place)

-- ---- read

-- the place, by its number [X1]
unfoldable pub place_in : List ℕ → Place
place_in xs =
    if_else (eqb (get_or xs 21 0) 0) Nowhere
    (if_else (eqb (get_or xs 21 0) 1) (OnFile (le16 xs 22)) (OnRecord (le16 xs 22) (get_or xs 24 0)))

-- what the place does not use is zero [X1] [X2]
unfoldable pub unused_zero : List ℕ → Bool
unused_zero xs =
    if_else (eqb (get_or xs 21 0) 0)
    (all_of (eqb (le16 xs 22) 0 ∷ eqb (get_or xs 24 0) 0 ∷ []))
    (if_else (eqb (get_or xs 21 0) 1) (eqb (get_or xs 24 0) 0) true)

-- bytes that are a session [X2]
unfoldable pub is_session : List ℕ → Bool
is_session xs = all_of (leb 25 (length xs) ∷ leb (get_or xs 20 0) 3 ∷ leb (get_or xs 21 0) 2 ∷ unused_zero xs ∷ [])

-- the session that the bytes of a session are [X1]
unfoldable pub session_in : List ℕ → Session
session_in xs = record { rights = held xs; application = get_or xs 20 0; place = place_in xs }

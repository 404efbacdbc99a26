-- An index of the records of a file: a list of places, one for each record, that its caller keeps beside the body. A place is where the
-- length of a record stands in the body.
use Rattle.std.specs.Prelude.{ℕ, zero, suc, ◌+◌, ◌-◌, Bool, not, List, [], ◌∷◌, ◌++◌, length, get_or, set, leb, ltb, eqb, Option, Some, None}
use Rattle.std.proofs.lemmas.List.Edits.{sets}
use Rattle.std.specs.Borrow.{Bor}
use Rattle.base.specs.Choice.{if_else, all_of}
use Rattle.base.specs.Lent.{PartOf}
use Rattle.store_records.specs.Little.{le16}
use Rattle.store_records.specs.Body.{count, next_place, place}
use Rattle.store_kinds.specs.Rules.{is_biometrics, kind_ok}

-- the places of the first n records [R9]
unfoldable pub places_to : List ℕ → ℕ → List ℕ
places_to xs zero = []
places_to xs (suc n) = places_to xs n ++ (place xs n ∷ [])

-- the kind is that of a record file, and the body is one of its kind [R10]
unfoldable pub record_file_ok : ℕ → List ℕ → Bool
record_file_ok k xs = all_of (not (is_biometrics k) ∷ kind_ok k xs ∷ [])

-- ---- build

-- such a body, and a list with an entry for each record [R10]
unfoldable pub build_ok : ℕ → List ℕ → List ℕ → Bool
build_ok k xs ps = all_of (record_file_ok k xs ∷ leb (count xs) (length ps) ∷ [])

-- how many places the list ps then holds [R10]
unfoldable pub build : ℕ → List ℕ → List ℕ → Option ℕ
build k xs ps = if_else (build_ok k xs ps) (Some (count xs)) None

-- the list afterwards: its first entries are the places, and every other entry stays [R10]
unfoldable pub build_into : ℕ → List ℕ → List ℕ → List ℕ
build_into k xs ps = if_else (build_ok k xs ps) (sets ps 0 (places_to xs (count xs))) ps

-- ---- extend

-- such a body, with one record more than the n places that the list holds, and an entry for the new place [R11]
unfoldable pub extend_ok : ℕ → List ℕ → List ℕ → ℕ → Bool
extend_ok k xs ps n = all_of (record_file_ok k xs ∷ eqb (n + 1) (count xs) ∷ ltb n (length ps) ∷ [])

-- how many places the list then holds [R11]
unfoldable pub extend : ℕ → List ℕ → List ℕ → ℕ → Option ℕ
extend k xs ps n = if_else (extend_ok k xs ps n) (Some (n + 1)) None

-- the list afterwards: the place of record n + 1 is entry n, counted from 0, and every other entry stays [R11]
unfoldable pub extend_into : ℕ → List ℕ → List ℕ → ℕ → List ℕ
extend_into k xs ps n = if_else (extend_ok k xs ps n) (set ps n (place xs n)) ps

-- ---- read

-- the place that the list has for record n, counted from 1 [R12]
unfoldable pub place_for : List ℕ → ℕ → ℕ
place_for ps n = get_or ps (n - 1) 0

-- the list has an entry for that number, and the length field there and as many bytes as it says are within the body [R12]
unfoldable pub read_ok : List ℕ → List ℕ → ℕ → Bool
read_ok xs ps n = all_of (leb 1 n ∷ leb n (length ps) ∷ leb (next_place xs (place_for ps n)) (length xs) ∷ [])

-- how many bytes the record has: what the length field at its place says [R12]
unfoldable pub measure : List ℕ → List ℕ → ℕ → Option ℕ
measure xs ps n = if_else (read_ok xs ps n) (Some (le16 xs (place_for ps n))) None

-- what is returned, r, where the body is lent: those bytes, as the part of the body that they are; an empty part on a refusal [R13]
abbrev pub IndexedPart : Option ℕ → List ℕ → ℕ → Bor (List ℕ) → Bor (List ℕ) → Type 0
IndexedPart (Some l) ps n body r = PartOf body (place_for ps n + 2) l r
IndexedPart None ps n body r = PartOf body 0 0 r

-- ---- the numbers of an answer

-- 6 for the refusal, and else none [R14] [C2]
abbrev pub index_refusal : Option ℕ → ℕ
index_refusal (Some n) = 0
index_refusal None = 6

-- how many places or bytes; none on a refusal [R14] [C2]
abbrev pub index_count : Option ℕ → ℕ
index_count (Some n) = n
index_count None = 0

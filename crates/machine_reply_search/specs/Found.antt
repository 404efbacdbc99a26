-- The reply of SEARCH RECORD: the numbers of the records that match, and the data object that lists them.
use Rattle.std.specs.Prelude.{ℕ, zero, suc, Bool, List, [], ◌∷◌, ◌++◌, length, take, replicate, leb}
use Rattle.std.proofs.lemmas.List.Edits.{sets}
use Rattle.base.specs.Choice.{if_else}
use Rattle.machine_window.specs.Window.{matches_in}
use Rattle.objects_writer.specs.Writing.{tlv}
use Rattle.store_records.specs.Body.{nth}

-- record n matches [Q7]
unfoldable pub is_match : List (List ℕ) → ℕ → ℕ → List ℕ → ℕ → Bool
is_match rs offset number text n = matches_in (nth rs n) offset number text

-- the numbers, from 1 to n and ascending, of the records that match [Q8]
unfoldable pub matching_to : List (List ℕ) → ℕ → ℕ → List ℕ → ℕ → List ℕ
matching_to rs offset number text zero = []
matching_to rs offset number text (suc n) =
    matching_to rs offset number text n ++ if_else (is_match rs offset number text (suc n)) (suc n ∷ []) []

-- of all records [Q8]
unfoldable pub matching : List (List ℕ) → ℕ → ℕ → List ℕ → List ℕ
matching rs offset number text = matching_to rs offset number text (length rs)

-- what is listed: all of them, or only the first [Q8]
unfoldable pub hits : List (List ℕ) → ℕ → ℕ → List ℕ → Bool → List ℕ
hits rs offset number text one = if_else one (take 1 (matching rs offset number text)) (matching rs offset number text)

-- numbers as they are kept, behind them zeros [Q8]
unfoldable pub kept : List ℕ → List ℕ
kept ns = sets (replicate 254 0) 0 ns

-- an object 02 for each number [Q10]
unfoldable pub listed : List ℕ → List ℕ
listed [] = []
listed (n ∷ ns) = tlv 0x02 (n ∷ []) ++ listed ns

-- the reply: the file reference as it was sent, then the numbers [Q10]
unfoldable pub found_data : List ℕ → List ℕ → List ℕ
found_data file ns = tlv 0x7F76 (tlv 0x51 file ++ listed ns)

-- what is stored of it. A file reference has at most two bytes; the writer takes up to 127, which a length of one byte tells, and stores
-- nothing for a longer one [Q10]
unfoldable pub reply : List ℕ → List ℕ → List ℕ
reply file ns = if_else (leb (length file) 127) (found_data file ns) []

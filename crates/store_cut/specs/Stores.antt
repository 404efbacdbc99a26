-- The single byte stores by which APPEND RECORD and ACTIVATE write a file's body, in order, and what the first of them leave.
use Rattle.std.specs.Prelude.{ℕ, suc, ◌+◌, ◌/◌, ◌%◌, List, [], ◌∷◌, ◌++◌, length, take, set}
use Rattle.base.specs.Choice.{if_else}
use Rattle.store_records.specs.Body.{count, used, appendable, record_bytes}
use Rattle.store_kinds.specs.Biometrics.{bio_ok}
use Rattle.store_cut.specs.declared.Writing.{Writing}
use Rattle.store_cut.specs.declared.Writing.TheVariants.{Record, State}

-- one store: a byte, and its place in the file's body; in promises/Cuts.antt its place in the image [CU1]
pub record Store : Type 0 where
  pub place : ℕ
  pub byte : ℕ

-- [CU1]
abbrev pub at : ℕ → ℕ → Store
at p b = record { place = p; byte = b }

-- bytes one behind the other, from p on [CU1]
unfoldable pub run : ℕ → List ℕ → List Store
run p [] = []
run p (b ∷ bs) = at p b ∷ run (suc p) bs

-- a record behind the last one: its length, its bytes, the count's high byte, and last the count's low byte [CU2]
unfoldable pub record_stores : List ℕ → List ℕ → List Store
record_stores xs d = run (used xs) (record_bytes d) ++ (at 1 ((count xs + 1) / 256 % 256) ∷ at 0 ((count xs + 1) % 256) ∷ [])

-- the stores of what is written to the body xs; none where xs cannot take it. For a state d does not matter [CU2] [CU3]
unfoldable pub stores : Writing → List ℕ → List ℕ → List Store
stores Record xs d = if_else (appendable xs (length d)) (record_stores xs d) []
stores State xs d = if_else (bio_ok xs) (at 0 1 ∷ []) []

-- the body after stores, one after the other [CU1]
unfoldable pub made : List Store → List ℕ → List ℕ
made [] xs = xs
made (s ∷ ss) xs = made ss (set xs s.place s.byte)

-- the body after the first k stores of what is written [CU4]
unfoldable pub make_stores : ℕ → Writing → List ℕ → List ℕ → List ℕ
make_stores k w xs d = made (take k (stores w xs d)) xs

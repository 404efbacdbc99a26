-- The reply of READ RECORD: the records joined, cut after 2,048 bytes.
use Rattle.std.specs.Prelude.{ℕ, zero, suc, List, [], ◌++◌, take, leb}
use Rattle.base.specs.Choice.{if_else}
use Rattle.store_records.specs.Body.{nth}

-- the records with the numbers first to last, counted from 1, one behind the other; a number that no record has gives no bytes [J5]
unfoldable pub records_joined : List (List ℕ) → ℕ → ℕ → List ℕ
records_joined rs first zero = []
records_joined rs first (suc n) = records_joined rs first n ++ if_else (leb first (suc n)) (nth rs (suc n)) []

-- [J5]
unfoldable pub records_data : List (List ℕ) → ℕ → ℕ → List ℕ
records_data rs first last = take 2048 (records_joined rs first last)

-- When a record matches a search, said of the bytes alone.
use Rattle.std.specs.Prelude.{ℕ, ◌+◌, ◌≤◌, ◌≡◌, ◌⊎◌, List, ◌++◌, length}
use Rattle.store_records.specs.Body.{nth}
use Rattle.objects_writer.specs.Number.{big}
use Rattle.objects_templates.specs.Search.{SearchFields}

-- the string t stands in the record r: r is some bytes, then t, then some bytes. It begins at the offset o or behind it, and ends within m
-- bytes from the offset on; m = 0 means all of them [C10] [Q6] [Q7]
pub record Stands (r t : List ℕ) (o m : ℕ) : Type 0 where
  pub before : List ℕ
  pub behind : List ℕ
  pub is : r ≡ before ++ (t ++ behind)
  pub from : o ≤ length before
  pub within : (m ≡ 0) ⊎ (length before + length t ≤ o + m)

-- record n of a list of records, counted from 1, matches the fields x of a search [C10]
pub record Matches (rs : List (List ℕ)) (x : SearchFields) (n : ℕ) : Type 0 where
  pub low : 1 ≤ n
  pub high : n ≤ length rs
  pub stands : Stands (nth rs n) x.text (big x.offset) (big x.number)

-- Where the body of a file stands in a card image, as `malquindo_file` tells it. Each promise is a type; the theorem of the same name is in
-- ../proofs/Promises.antt. Read before: Linked.antt.
use Rattle.std.specs.Prelude.{ℕ, ◌+◌, ◌-◌, ◌/◌, ◌%◌, ◌≤◌, ◌≡◌, true, List, length, Some}
use Rattle.base.specs.Bytes.{part}
use Rattle.store_records.specs.Body.{records}
use Rattle.store_image.specs.Image.{len_at, kind_at, find, has, body, well_formed}
use Rattle.malquindo.specs.Face.{called, file_result}

-- ---- results: `malquindo_file_place`, `malquindo_file_length`

-- [X11]
unfoldable pub file_place_in : ℕ → ℕ
file_place_in r = r / 4294967296

-- [X11]
unfoldable pub file_length_in : ℕ → ℕ
file_length_in r = r % 4294967296

-- ---- where a body stands

-- what the result r of `malquindo_file` tells of the file of kind k [X11]
pub record FileC (img : List ℕ) (k r : ℕ) : Type 0 where
  -- 0 exactly where the file is not there, or the image is not well formed
  pub there_complete : well_formed img ≡ true → has img k ≡ true → 1 ≤ r
  pub there_sound : 1 ≤ r → (well_formed img ≡ true) × (has img k ≡ true)
  -- place and length are those of the section of kind k, within the image, and not of bytes elsewhere that look like it
  pub stands : 1 ≤ r → find img k ≡ Some (file_place_in r, file_length_in r)
  pub within : file_place_in r + file_length_in r ≤ length img
  pub bytes : 1 ≤ r → part img (file_place_in r) (file_length_in r) ≡ body img k
  -- the length and the kind stand in the six bytes before the body
  pub head : 1 ≤ r → (6 ≤ file_place_in r) × (len_at img (file_place_in r - 6) ≡ file_length_in r) × (kind_at img (file_place_in r - 6) ≡ k)

-- [X11]
abbrev pub CFile : Type 0
CFile = (img : List ℕ) (k : ℕ) → FileC img k (file_result img k)

-- a command leaves every body where it is, and as long [X11]
abbrev pub CFileStays : Type 0
CFileStays = (img ses cmd buf : List ℕ) (k : ℕ) → well_formed img ≡ true → file_result (called img ses cmd buf).image k ≡ file_result img k

-- the body of the file of kind k, where `malquindo_file` tells that it stands: what a caller lends [X11]
unfoldable pub lent_body : List ℕ → ℕ → List ℕ
lent_body img k = part img (file_place_in (file_result img k)) (file_length_in (file_result img k))

-- n is the number of a record of the body xs [R3] [P3]
abbrev pub IsNumber : List ℕ → ℕ → Type 0
IsNumber xs n = (1 ≤ n) × (n ≤ length (records xs))

-- What a stamp says, as a desk asks for it: what the result of `malquindo_stamp_read` and its list tell. Each promise is a type; the theorem
-- of the same name is in ../proofs/Promises.antt. Read before: specs/Stamp.antt, Chars.antt, Rules.antt and Faults.antt of objects_stamp.
use Rattle.std.specs.Prelude.{ℕ, ◌+◌, ◌*◌, ◌/◌, ◌%◌, ◌≤◌, ◌<◌, ◌≡◌, List, length, take, drop}
use Rattle.base.specs.Bytes.{AllBytes}
use Rattle.objects_stamp.specs.declared.Reason.{Reason}
use Rattle.objects_stamp.specs.Stamp.{Stamp, Lawful, stamp_data, stamp_places}
use Rattle.objects_stamp.specs.Faults.{reason_number, StampFaults, NoFault, FirstOf}
use Rattle.objects_stamp.specs.Read.{read_stamp, read_stamp_into}
use Rattle.malquindo.specs.Face.{stamp_result}

-- ---- results: `malquindo_stamp_reason`, `malquindo_stamp_offset`

-- the upper half [X14]
unfoldable pub stamp_reason_in : ℕ → ℕ
stamp_reason_in r = r / 4294967296

-- the lower half [X14]
unfoldable pub stamp_offset_in : ℕ → ℕ
stamp_offset_in r = r % 4294967296

-- ---- read

-- the record s is the writing of the stamp x, whose fields Table 11 allows [TR6]
pub record IsStamp (s : List ℕ) (x : Stamp) : Type 0 where
  pub lawful : Lawful x
  pub written : s ≡ stamp_data x

-- what reading the record s tells: the result r, and the list `new` that was ps [TR6] [TR8] [TR10] [X14]
pub record StampC (s ps : List ℕ) (r : ℕ) (new : List ℕ) : Type 0 where
  -- 15 exactly where the list has fewer than 26 entries
  pub short_complete : length ps < 26 → r ≡ 15 * 4294967296
  pub short_sound : stamp_reason_in r ≡ 15 → length ps < 26
  -- 0 exactly where the record is a stamp, which is exactly where nothing is wrong with it
  pub stamp_complete : 26 ≤ length ps → (x : Stamp) → IsStamp s x → r ≡ 0
  pub stamp_sound : r ≡ 0 → (x : Stamp) × IsStamp s x
  pub right_complete : 26 ≤ length ps → NoFault (StampFaults s) → r ≡ 0
  pub right_sound : r ≡ 0 → NoFault (StampFaults s)
  -- and then the list has the places of the stamp's fields
  pub places : r ≡ 0 → (x : Stamp) → IsStamp s x → take 26 new ≡ stamp_places x
  -- else the first fault is told, by reason and offset, and whatever is first is what is told
  pub fault_complete : 26 ≤ length ps → (w : Reason) (at : ℕ) → FirstOf (StampFaults s) w at → r ≡ reason_number w * 4294967296 + at
  pub fault_sound : 26 ≤ length ps → 1 ≤ r → (w : Reason) × (stamp_reason_in r ≡ reason_number w) × FirstOf (StampFaults s) w (stamp_offset_in r)
  -- and the list stays
  pub fault_kept : 1 ≤ r → new ≡ ps
  pub rest_kept : drop 26 new ≡ drop 26 ps
  pub size_kept : length new ≡ length ps

-- [X14]
abbrev pub CStampReads : Type 0
CStampReads = (s ps : List ℕ) → AllBytes s → StampC s ps (stamp_result (read_stamp s ps)) (read_stamp_into s ps)

-- the fields of a stamp are the only ones with its bytes, whatever fields are tried [TR6]
abbrev pub CStampUnique : Type 0
CStampUnique = (s : List ℕ) (x y : Stamp) → IsStamp s x → s ≡ stamp_data y → x ≡ y

-- ---- the longest

-- no stamp is longer than 391 bytes, and one is as long [TR11]
pub record StampLongest : Type 0 where
  pub most : (s ps : List ℕ) → AllBytes s → stamp_result (read_stamp s ps) ≡ 0 → length s ≤ 391
  pub reached : (s : List ℕ) × AllBytes s × (length s ≡ 391) × ((ps : List ℕ) → 26 ≤ length ps → stamp_result (read_stamp s ps) ≡ 0)

-- [TR11]
abbrev pub CStampLongest : Type 0
CStampLongest = StampLongest

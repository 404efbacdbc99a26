-- The first thing that is wrong with a record: along the rows of the table. What is wrong at all, first or not, is in Faults.antt.
use Rattle.std.specs.Prelude.{ℕ, suc, ◌+◌, List, Bool, length, take, drop, eqb, Result, Ok, Err}
use Rattle.base.specs.Choice.{if_else}
use Rattle.objects_reader.specs.Head.{head_of, Head}
use Rattle.objects_reader.specs.Form.{Form, done, plain, maybe, nested, of_size}
use Rattle.objects_reader.specs.Encoding.{leaf_count}
use Rattle.objects_reader.specs.declared.head.HeadFault.TheVariants.{NoTag, NoLength}
use Rattle.objects_stamp.specs.declared.Reason.{Reason}
use Rattle.objects_stamp.specs.declared.Reason.TheVariants.{WrongTag, WrongLength, WrongContent}
use Rattle.objects_stamp.specs.Rules.{stamp_form, content_ok}

-- nothing is wrong; or this is, as (reason, at), with the object whose first byte stands, or should stand, at that place [TR7]
abbrev pub Finding : Type 0
Finding = Result (Unit {0}) (Reason × ℕ)

-- the second where nothing is wrong with the first [TR8]
abbrev pub and_then : Finding → Finding → Finding
and_then (Ok _) v = v
and_then (Err w) v = Err w

-- the object that should stand at `at`: it stands there, or another tag or none does, or its length is none that fits [TR7]
abbrev pub object_fault : Head → (at : ℕ) → (ℕ → ℕ → Finding) → (missing : Finding) → Finding
object_fault (Ok (start, len)) at there missing = there start len
object_fault (Err NoTag) at there missing = missing
object_fault (Err NoLength) at there missing = Err (WrongLength, at)

-- a field that should stand at `at`: tag before length before content, and then what is wrong behind it [TR7] [TR8]
abbrev pub field_fault : (tag lo hi at : ℕ) → List ℕ → (content : ℕ → ℕ → Bool) → (behind : ℕ → Finding) → (missing : Finding) → Finding
field_fault tag lo hi at s content behind missing =
    object_fault (head_of tag s) at
    (λ start len. of_size lo hi len (if_else (content (at + start) len) (behind (start + len)) (Err (WrongContent, at))) (Err (WrongLength, at)))
    missing

-- The first thing that is wrong with s, which starts at `at` in the record and whose first field is the k-th of the table.
-- `ok k start len` says whether the k-th field may have the len bytes from start on for its content. [TR8]
unfoldable pub first_fault : (ok : ℕ → ℕ → ℕ → Bool) → Form → (k at : ℕ) → List ℕ → Finding
first_fault ok done k at s = if_else (eqb (length s) 0) (Ok tt) (Err (WrongTag, at))
first_fault ok (plain tag lo hi f) k at s =
    field_fault tag lo hi at s (ok k) (λ n. first_fault ok f (suc k) (at + n) (drop n s)) (Err (WrongTag, at))
first_fault ok (maybe tag lo hi f) k at s =
    field_fault tag lo hi at s (ok k) (λ n. first_fault ok f (suc k) (at + n) (drop n s)) (first_fault ok f (suc k) at s)
first_fault ok (nested tag g f) k at s =
    object_fault (head_of tag s) at
    (λ start len. and_then (first_fault ok g k (at + start) (take len (drop start s))) (first_fault ok f (k + leaf_count g) (at + (start + len)) (drop (start + len) s)))
    (Err (WrongTag, at))

-- with a record, by Table 11 [TR8]
unfoldable pub stamp_finding : List ℕ → Finding
stamp_finding s = first_fault (content_ok s) stamp_form 0 0 s

-- Not to be believed: only contracts of private functions and proofs cite this.
use Rattle.std.specs.Prelude.{ℕ, zero, suc, ◌-◌, Bool, ltb, Option, None, Some, Ok, Err}
use Rattle.base.specs.Choice.{if_else}
use Rattle.objects_reader.specs.Places.{span_at}
use Rattle.objects_reader.specs.declared.reader.Fault.{Fault}
use Rattle.objects_reader.specs.declared.reader.Fault.TheVariants.{Tag, Length, Depth}
use Rattle.objects_reader.specs.declared.reader.Reading.{Reading}
use Rattle.objects_stamp.specs.declared.Reason.{Reason}
use Rattle.objects_stamp.specs.declared.Reason.TheVariants.{WrongTag, WrongLength, WrongContent}
use Rattle.objects_stamp.specs.FirstFault.{Finding}

-- this is wrong, with the object at that place
abbrev pub wrong : Reason → ℕ → Finding
wrong r at = Err (r, at)

-- the reader's own fault; nothing in a stamp lies too deep
abbrev pub of_fault : Option Fault → ℕ → Finding
of_fault None at = Ok tt
of_fault (Some Tag) at = Err (WrongTag, at)
of_fault (Some Length) at = Err (WrongLength, at)
of_fault (Some Depth) at = Err (WrongLength, at)

-- where an object with a tag of two bytes starts, whose value is the len bytes from start on
abbrev pub object_at : ℕ → ℕ → ℕ
object_at start len = start - if_else (ltb len 128) 3 4

-- the contents of m places from the k-th on, and then the fault
unfoldable pub tells : (ok : ℕ → ℕ → ℕ → Bool) → Reading → (m k : ℕ) → Finding
tells ok q zero k = of_fault q.fault q.at
tells ok q (suc m) k =
    let p = span_at q k in
    if_else (ok k p.at p.len) (tells ok q m (suc k)) (Err (WrongContent, object_at p.at p.len))

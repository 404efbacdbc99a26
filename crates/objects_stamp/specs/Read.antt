-- What reading a stamp answers, and what it writes into the list.
use Rattle.std.specs.Prelude.{ℕ, List, length, ltb, Result, Ok, Err}
use Rattle.std.proofs.lemmas.List.Edits.{sets}
use Rattle.base.specs.Choice.{if_else}
use Rattle.objects_reader.specs.Form.{read_all}
use Rattle.objects_reader.specs.Places.{place_pairs}
use Rattle.objects_reader.specs.declared.reader.Reading.{Reading}
use Rattle.objects_stamp.specs.declared.StampFault.{StampFault}
use Rattle.objects_stamp.specs.declared.StampFault.TheVariants.{ShortList, Wrong}
use Rattle.objects_stamp.specs.Rules.{stamp_form}
use Rattle.objects_stamp.specs.FirstFault.{Finding, stamp_finding}

-- what is found, told by the reader [TR9]
abbrev pub stamp_answer : Finding → Result (Unit {0}) StampFault
stamp_answer (Ok _) = Ok tt
stamp_answer (Err (r, at)) = Err (Wrong r at)

-- what is found, where the list has an entry for each of 26 numbers [TR10]
unfoldable pub read_stamp : List ℕ → List ℕ → Result (Unit {0}) StampFault
read_stamp s ps = if_else (ltb (length ps) 26) (Err ShortList) (stamp_answer (stamp_finding s))

-- where nothing is wrong, the list gets the places that the reader noted; else it stays [TR6] [TR10]
abbrev pub places_written : Finding → Reading → List ℕ → List ℕ
places_written (Ok _) r ps = sets ps 0 (place_pairs r.places 13)
places_written (Err (x, at)) r ps = ps

-- the list afterwards: as it was where it is too short [TR6] [TR10]
unfoldable pub read_stamp_into : List ℕ → List ℕ → List ℕ
read_stamp_into s ps = if_else (ltb (length ps) 26) ps (places_written (stamp_finding s) (read_all stamp_form s) ps)

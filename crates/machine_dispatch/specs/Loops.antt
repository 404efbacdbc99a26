-- Not to be believed: only contracts of private functions and proofs cite this.
use Rattle.std.specs.Prelude.{ℕ, ◌+◌, ◌≤◌, ◌≡◌, true, List, length, Result, Ok, Err}
use Rattle.objects_writer.specs.Fitting.{object_length}
use Rattle.store_files.specs.Files.{file_bytes}
use Rattle.store_files.specs.Loops.{Stored}
use Rattle.machine_session.specs.Session.{is_record_of}
use Rattle.machine_record.specs.SearchRecord.{file_in}
use Rattle.machine_action.specs.declared.Action.{Action}
use Rattle.machine_action.specs.declared.Action.TheVariants.{SelectApplication, SelectFile, ReadBinary, UpdateBinary, Activate, AppendRecord, ReadRecord, SearchRecord, Report, ReadBinaryOdd}

-- what the functions rely on that do what a command comes to
abbrev pub Allowed : List ℕ → List ℕ → Result Action ℕ → Type 0
Allowed img d (Err w) = Unit {0}
Allowed img d (Ok (SelectApplication a)) = Unit {0}
Allowed img d (Ok (SelectFile f)) = Unit {0}
Allowed img d (Ok (ReadBinary t o n)) = (n ≤ 2048) × (o + n ≤ length (file_bytes img t))
Allowed img d (Ok (UpdateBinary n w)) = Unit {0}
Allowed img d (Ok (Activate n)) = Unit {0}
Allowed img d (Ok (AppendRecord r)) = Unit {0}
Allowed img d (Ok (ReadRecord r a b)) = Stored img r × (is_record_of img r a ≡ true)
Allowed img d (Ok (SearchRecord r q ne)) = Stored img r × (length (file_in d q) ≤ 2)
Allowed img d (Ok (Report f p2)) = Unit {0}
Allowed img d (Ok (ReadBinaryOdd t o n)) = (object_length n ≤ 2048) × (o + n ≤ length (file_bytes img t))

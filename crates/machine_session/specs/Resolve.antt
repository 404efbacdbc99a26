-- Steps 7 to 9 of the order of status words: which file a command means, whether it is of the type that the command takes, and whether
-- the session has the right. A command on records, one that reads a transparent file, one that writes a biometrics file and one that
-- takes any file each have an answer of their own.
use Rattle.std.specs.Prelude.{ℕ, Bool, true, false, not, List, [], ◌∷◌, eqb, Option, Some, None, Result, Ok, Err}
use Rattle.base.specs.Choice.{if_else}
use Rattle.store_kinds.specs.Biometrics.{state}
use Rattle.store_kinds.specs.Rules.{biometrics_kind}
use Rattle.store_kinds.specs.declared.rules.Rule.{Rule}
use Rattle.store_image.specs.Image.{body}
use Rattle.store_files.specs.Files.{by_id, by_short}
use Rattle.store_files.specs.declared.Transparent.{Transparent}
use Rattle.store_files.specs.declared.Transparent.TheVariants.{Info, Dir, Biometrics}
use Rattle.store_files.specs.declared.File.{File}
use Rattle.store_files.specs.declared.File.TheVariants.{RecordFile, TransparentFile}
use Rattle.machine_rights.specs.Rights.{may_records, may_biometrics}
use Rattle.machine_apdu.specs.Status.{no_current_file, file_not_found, wrong_file_type, not_permitted}
use Rattle.machine_session.specs.Order.{in_order}
use Rattle.machine_session.specs.declared.Place.{Place}
use Rattle.machine_session.specs.declared.Place.TheVariants.{Nowhere, OnFile, OnRecord}
use Rattle.machine_session.specs.declared.Session.{Session}
use Rattle.machine_session.specs.declared.Named.{Named}
use Rattle.machine_session.specs.declared.Named.TheVariants.{Current, Short, Id}
use Rattle.machine_session.specs.declared.Access.{Access}
use Rattle.machine_session.specs.declared.Access.TheVariants.{Read, Append}

-- ---- step 7: which file is meant

-- [O7]
abbrev pub meant_by : Option File → Result File ℕ
meant_by (Some f) = Ok f
meant_by None = Err file_not_found

-- [O7] [F1]
abbrev pub meant_at : List ℕ → ℕ → Place → Result File ℕ
meant_at img a Nowhere = Err no_current_file
meant_at img a (OnFile i) = meant_by (by_id img a i)
meant_at img a (OnRecord i n) = meant_by (by_id img a i)

-- [O7] [F1]
unfoldable pub file_meant : List ℕ → Session → Named → Result File ℕ
file_meant img s Current = meant_at img s.application s.place
file_meant img s (Short x) = meant_by (by_short img s.application x)
file_meant img s (Id i) = meant_by (by_id img s.application i)

-- ---- step 9: the right

-- the certificate files have short id 1A [B12]
unfoldable pub is_certificates : Rule → Bool
is_certificates r = eqb r.short 0x1A

-- [B7]
abbrev pub appends : Access → Bool
appends Read = false
appends Append = true

-- the right to read a record file, or to append to it [B7] [B10]
unfoldable pub may_record : Session → Access → Rule → Bool
may_record s x r = may_records s.rights r.application (is_certificates r) (appends x)

-- Biometrics n is Activated [N1] [B9]
unfoldable pub activated : List ℕ → ℕ → Bool
activated img n = eqb (state (body img (biometrics_kind n))) 1

-- the right to read a transparent file: the master file's are free [B9] [B11]
unfoldable pub may_read : List ℕ → Session → Transparent → Bool
may_read img s Info = true
may_read img s Dir = true
may_read img s (Biometrics n) = may_biometrics s.rights n (activated img n)

-- the right to select a file and to ask for its numbers is the right to read it [B10]
unfoldable pub may_inspect : List ℕ → Session → File → Bool
may_inspect img s (RecordFile r) = may_record s Read r
may_inspect img s (TransparentFile t) = may_read img s t

-- ---- a command on records

-- [O8] [O9]
abbrev pub as_record : Session → Access → File → Result Rule ℕ
as_record s x (RecordFile r) = if_else (may_record s x r) (Ok r) (Err not_permitted)
as_record s x (TransparentFile t) = Err wrong_file_type

-- [O7]
abbrev pub record_by : Session → Access → Result File ℕ → Result Rule ℕ
record_by s x (Err w) = Err w
record_by s x (Ok f) = as_record s x f

-- [O7] [O8] [O9]
unfoldable pub resolve_record : List ℕ → Session → Access → Named → Result Rule ℕ
resolve_record img s x named = record_by s x (file_meant img s named)

-- ---- a command that reads a transparent file

-- [O8] [O9]
abbrev pub as_transparent : List ℕ → Session → File → Result Transparent ℕ
as_transparent img s (RecordFile r) = Err wrong_file_type
as_transparent img s (TransparentFile t) = if_else (may_read img s t) (Ok t) (Err not_permitted)

-- [O7]
abbrev pub transparent_by : List ℕ → Session → Result File ℕ → Result Transparent ℕ
transparent_by img s (Err w) = Err w
transparent_by img s (Ok f) = as_transparent img s f

-- [O7] [O8] [O9]
unfoldable pub resolve_transparent : List ℕ → Session → Named → Result Transparent ℕ
resolve_transparent img s named = transparent_by img s (file_meant img s named)

-- ---- a command that writes or activates a biometrics file

-- never the master file's files, never one that is Activated [B11] [O9]
unfoldable pub writable : List ℕ → Session → Transparent → Result ℕ ℕ
writable img s Info = Err not_permitted
writable img s Dir = Err not_permitted
writable img s (Biometrics n) =
    in_order
    ((not (activated img n), Err not_permitted)
    ∷ (may_biometrics s.rights n false, Err not_permitted)
    ∷ [])
    (Ok n)

-- [O8]
abbrev pub as_biometrics : List ℕ → Session → File → Result ℕ ℕ
as_biometrics img s (RecordFile r) = Err wrong_file_type
as_biometrics img s (TransparentFile t) = writable img s t

-- [O7]
abbrev pub biometrics_by : List ℕ → Session → Result File ℕ → Result ℕ ℕ
biometrics_by img s (Err w) = Err w
biometrics_by img s (Ok f) = as_biometrics img s f

-- [O7] [O8] [O9]
unfoldable pub resolve_biometrics : List ℕ → Session → Named → Result ℕ ℕ
resolve_biometrics img s named = biometrics_by img s (file_meant img s named)

-- ---- a command that takes any file

-- [O7] [O9]
abbrev pub file_by : List ℕ → Session → Result File ℕ → Result File ℕ
file_by img s (Err w) = Err w
file_by img s (Ok f) = if_else (may_inspect img s f) (Ok f) (Err not_permitted)

-- [O7] [O9]
unfoldable pub resolve_file : List ℕ → Session → Named → Result File ℕ
resolve_file img s named = file_by img s (file_meant img s named)

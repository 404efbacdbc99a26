-- A session: its rights, the application selected, the current place. The master file is application 0.
use Rattle.std.specs.Prelude.{ℕ, Bool, true, false, ◌||◌, List, [], ◌∷◌, leb, eqb, Option, Some, None}
use Rattle.base.specs.Choice.{if_else, all_of}
use Rattle.store_records.specs.Body.{count}
use Rattle.store_image.specs.Image.{present, body}
use Rattle.store_kinds.specs.declared.rules.Rule.{Rule}
use Rattle.machine_rights.specs.Chain.{effective, is_cleared}
use Rattle.store_files.specs.Files.{by_id, id_of}
use Rattle.store_files.specs.declared.File.{File}
use Rattle.store_files.specs.declared.File.TheVariants.{RecordFile, TransparentFile}
use Rattle.machine_session.specs.declared.Place.{Place}
use Rattle.machine_session.specs.declared.Place.TheVariants.{Nowhere, OnFile, OnRecord}
use Rattle.machine_session.specs.declared.Session.{Session}

-- the session that certificates open: the master file selected, no current file [S2]
unfoldable pub opened : List ℕ → Session
opened c = record { rights = effective c; application = 0; place = Nowhere }

-- the session at another place, and in another application [S1]
abbrev pub placed : Session → Place → Session
placed s p = record { rights = s.rights; application = s.application; place = p }

-- [S1] [L6]
abbrev pub entered : Session → ℕ → Session
entered s a = record { rights = s.rights; application = a; place = Nowhere }

-- the number of a place [S1] [X1] [C2]
abbrev pub place_number : Place → ℕ
place_number Nowhere = 0
place_number (OnFile i) = 1
place_number (OnRecord i n) = 2

-- the id of its file and the number of its record, 0 where there is none [X1] [C2]
abbrev pub place_file : Place → ℕ
place_file Nowhere = 0
place_file (OnFile i) = i
place_file (OnRecord i n) = i

-- [X1] [C2]
abbrev pub place_record : Place → ℕ
place_record Nowhere = 0
place_record (OnFile i) = 0
place_record (OnRecord i n) = n

-- the current place is on the file with this id [S7]
unfoldable pub is_current : Place → ℕ → Bool
is_current Nowhere i = false
is_current (OnFile j) i = eqb j i
is_current (OnRecord j n) i = eqb j i

-- a file becomes the current one: another file drops the current record, the same file keeps it [S7]
unfoldable pub set_file : Session → File → Session
set_file s f = if_else (is_current s.place (id_of f)) s (placed s (OnFile (id_of f)))

-- the current record of the file with this id [S8]
abbrev pub record_number_at : Place → ℕ → Option ℕ
record_number_at Nowhere i = None
record_number_at (OnFile j) i = None
record_number_at (OnRecord j n) i = if_else (eqb j i) (Some n) None

-- [S8]
unfoldable pub current_record : Session → Rule → Option ℕ
current_record s r = record_number_at s.place r.id

-- ---- whether a session fits an image

-- the master file is always there, an application where it is present [S3]
unfoldable pub application_fits : List ℕ → ℕ → Bool
application_fits img a = eqb a 0 || present img a

-- a look-up found a file [S4]
abbrev pub is_known : Option File → Bool
is_known (Some f) = true
is_known None = false

-- record n is there: records are numbered from 1 [S5]
abbrev pub is_record_of : List ℕ → Rule → ℕ → Bool
is_record_of img r n = all_of (leb 1 n ∷ leb n (count (body img r.kind)) ∷ [])

-- [S5]
abbrev pub has_record : List ℕ → File → ℕ → Bool
has_record img (RecordFile r) n = is_record_of img r n
has_record img (TransparentFile t) n = false

-- [S5]
abbrev pub record_fits : List ℕ → Option File → ℕ → Bool
record_fits img (Some f) n = has_record img f n
record_fits img None n = false

-- the current file is one of the selected application's, the current record one of the file's [S4]
unfoldable pub place_fits : List ℕ → ℕ → Place → Bool
place_fits img a Nowhere = true
place_fits img a (OnFile i) = is_known (by_id img a i)
place_fits img a (OnRecord i n) = record_fits img (by_id img a i) n

-- a session fits an image [S3] [S4] [S5] [S6]
unfoldable pub session_fits : List ℕ → Session → Bool
session_fits img s =
    all_of (application_fits img s.application ∷ place_fits img s.application s.place ∷ is_cleared s.rights ∷ [])

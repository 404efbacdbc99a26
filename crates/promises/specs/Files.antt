-- Which file a command means, said of the session, of the ids and short ids of files, and of the command's bytes. The promises do not take it
-- from the machine's look-ups.
use Rattle.std.specs.Prelude.{ℕ, ◌/◌, ◌%◌, ◌≡◌, Bool, true, false, ◌&&◌, ◌||◌, length, get_or, eqb, Option, Some, None}
use mathlib.Core.List.{List, [], ◌∷◌, Memᴰ}
use Rattle.base.specs.Choice.{if_else, all_of}
use Rattle.store_kinds.specs.Rules.{biometrics, rules, rule_of, biometrics_kind}
use Rattle.store_kinds.specs.declared.rules.Rule.{Rule}
use Rattle.store_kinds.specs.declared.rules.Key.TheVariants.{Kind}
use Rattle.store_image.specs.Image.{has}
use Rattle.store_files.specs.Files.{id_of}
use Rattle.store_files.specs.declared.Transparent.{Transparent}
use Rattle.store_files.specs.declared.Transparent.TheVariants.{Info, Dir, Biometrics}
use Rattle.store_files.specs.declared.File.{File}
use Rattle.store_files.specs.declared.File.TheVariants.{RecordFile, TransparentFile}
use Rattle.machine_session.specs.Session.{is_current}
use Rattle.machine_rights.specs.Rights.{may_biometrics}
use Rattle.machine_session.specs.Resolve.{may_record, may_inspect, activated}
use Rattle.machine_session.specs.declared.Session.{Session}
use Rattle.machine_session.specs.declared.Access.{Access}
use Rattle.machine_session.specs.declared.Named.{Named}
use Rattle.machine_session.specs.declared.Named.TheVariants.{Current, Short, Id}
use Rattle.machine_action.specs.Tests.{id_in}

-- the application that a file is in; the master file is application 0 [F1] [F2]
unfoldable pub application_of_file : File → ℕ
application_of_file (RecordFile r) = r.application
application_of_file (TransparentFile Info) = 0
application_of_file (TransparentFile Dir) = 0
application_of_file (TransparentFile (Biometrics n)) = biometrics

-- x is the short id of a file; Biometrics n has none [F2] [F4]
unfoldable pub is_short_of : File → ℕ → Bool
is_short_of (RecordFile r) x = eqb r.short x
is_short_of (TransparentFile Info) x = eqb x 0x01
is_short_of (TransparentFile Dir) x = eqb x 0x1E
is_short_of (TransparentFile (Biometrics n)) x = false

-- the file f goes by this name in session s: the current file, a short id, an id [F1] [F4]
abbrev pub goes_by : Session → File → Named → Bool
goes_by s f Current = is_current s.place (id_of f)
goes_by s f (Short x) = is_short_of f x
goes_by s f (Id i) = eqb (id_of f) i

-- and is one of the selected application's [F1] [C7]
unfoldable pub is_meant : Session → Named → File → Bool
is_meant s n f = all_of (eqb (application_of_file f) s.application ∷ goes_by s f n ∷ [])

-- the short id x of P2 means the file f: 0 is the current file [F4] [C7]
unfoldable pub is_meant_by_p2 : Session → ℕ → File → Bool
is_meant_by_p2 s x f = if_else (eqb x 0) (is_meant s Current f) (is_meant s (Short x) f)

-- the byte b of a search means the file f: it is the short id of f, or has it in b8 to b4 and 000 in its low bits [Q4] [C10]
unfoldable pub is_meant_by_byte : Session → ℕ → File → Bool
is_meant_by_byte s b f = is_meant s (Short b) f || (eqb (b % 8) 0 && is_meant s (Short (b / 8)) f)

-- the reference v of a search means the file f: one byte is a short id in either spelling, two bytes are an id [Q4] [C10]
unfoldable pub is_meant_by_search : Session → List ℕ → File → Bool
is_meant_by_search s v f = if_else (eqb (length v) 1) (is_meant_by_byte s (get_or v 0 0) f) (is_meant s (Id (id_in v)) f)

-- P2 means the record file of a row of the rule table [C7]
abbrev pub is_meant_row : Session → ℕ → Option Rule → Bool
is_meant_row s x (Some r) = is_meant_by_p2 s x (RecordFile r)
is_meant_row s x None = false

-- P2 means the record file of kind k [C7]
unfoldable pub is_meant_kind : Session → ℕ → ℕ → Bool
is_meant_kind s x k = is_meant_row s x (rule_of (Kind k))

-- the record file of rule r: it is one of the table, and the session may read it, or append to it [C9]
pub record Permitted (s : Session) (x : Access) (r : Rule) : Type 0 where
  pub listed : Memᴰ r rules
  pub right : may_record s x r ≡ true

-- the card has the file; the master file's two are always there [F2] [F3]
unfoldable pub is_there : List ℕ → File → Bool
is_there img (RecordFile r) = has img r.kind
is_there img (TransparentFile Info) = true
is_there img (TransparentFile Dir) = true
is_there img (TransparentFile (Biometrics n)) = has img (biometrics_kind n)

-- a command that names a file by n reads it, or asks for its numbers: f is the file that is meant, the card has it, and the session may read it [C13]
pub record Inspected (img : List ℕ) (s : Session) (n : Named) (f : File) : Type 0 where
  pub meant : is_meant s n f ≡ true
  pub there : is_there img f ≡ true
  pub right : may_inspect img s f ≡ true

-- a command that names a file by n writes it: Biometrics m is meant, the card has it, it is not Activated, and the session may write it [C13]
pub record WritesTo (img : List ℕ) (s : Session) (n : Named) (m : ℕ) : Type 0 where
  pub meant : is_meant s n (TransparentFile (Biometrics m)) ≡ true
  pub there : has img (biometrics_kind m) ≡ true
  pub deactivated : activated img m ≡ false
  pub right : may_biometrics s.rights m false ≡ true

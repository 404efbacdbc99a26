-- What reading the rights of three runs answers, and what it writes: one extension after the other, into the 20 bytes of a certificate.
use Rattle.std.specs.Prelude.{ℕ, zero, suc, ◌+◌, ◌/◌, ◌%◌, Bool, List, [], ◌∷◌, ◌++◌, length, get_or, drop, replicate, ltb, eqb, Result, Ok, Err, is_ok}
use Rattle.std.specs.Int.Bits.{bit_or}
use Rattle.base.specs.Choice.{if_else}
use Rattle.base.specs.Bytes.{part, put}
use Rattle.objects_reader.specs.Head.{head_of, Head}
use Rattle.objects_reader.specs.Form.{Form, done, plain, nested, is_clean, read_all}
use Rattle.objects_reader.specs.Places.{span_at}
use Rattle.objects_reader.specs.declared.reader.Reading.{Reading}
use Rattle.objects_extensions.specs.declared.Known.{Known}
use Rattle.objects_extensions.specs.declared.Known.TheVariants.{Travel, Visa, Biometrics}
use Rattle.objects_extensions.specs.declared.ExtensionFault.{ExtensionFault}
use Rattle.objects_extensions.specs.declared.ExtensionFault.TheVariants.{Malformed, Twice}
use Rattle.objects_extensions.specs.declared.RightsFault.{RightsFault}
use Rattle.objects_extensions.specs.declared.RightsFault.TheVariants.{ShortBuffer, Faulty}
use Rattle.objects_extensions.specs.Extensions.{Extension, size_of, flag_of, is_for}

-- what comes of a run: no fault, or that of its first extension that has one [CE8]
abbrev pub RunRead : Type 0
RunRead = Result (Unit {0}) ExtensionFault

-- what comes of extensions, and the bytes that they gave so far: the 20 of a certificate, or of three runs without a fault all 60 [CE5] [CE8]
pub record RunResult : Type 0 where
  pub read : RunRead
  pub bytes : List ℕ

-- no fault yet [CE5]
abbrev pub whole : List ℕ → RunResult
whole c = record { read = Ok tt; bytes = c }

-- a fault, and the bytes before it [CE8]
abbrev pub faulty : ExtensionFault → List ℕ → RunResult
faulty w c = record { read = Err w; bytes = c }

-- what follows, where there is no fault yet [CE8]
abbrev pub on_whole : RunResult → (List ℕ → RunResult) → RunResult
on_whole r go = if_else (is_ok r.read) (go r.bytes) r

-- ---- one extension

-- where its rights stand among a certificate's 20 bytes [CE5] [B1]
abbrev pub rights_place : Known → ℕ
rights_place Travel = 1
rights_place Visa = 2
rights_place Biometrics = 3

-- a certificate's bytes have its flag, so it was there before [CE6] [B2]
abbrev pub has_flag : Known → List ℕ → Bool
has_flag k c = eqb (get_or c 0 0 / flag_of k % 2) 1

-- a certificate's bytes with its flag and its rights [CE5]
abbrev pub with_known : Known → List ℕ → List ℕ → List ℕ
with_known k c v = put (put c 0 (bit_or (get_or c 0 0) (flag_of k) ∷ [])) (rights_place k) v

-- a known one, put into a certificate's bytes: first its size is tested, then whether it was there before [CE4] [CE6] [CE8]
unfoldable pub keeps_known : Known → List ℕ → List ℕ → RunResult
keeps_known k c v =
    if_else (eqb (length v) (size_of k)) (if_else (has_flag k c) (faulty Twice c) (whole (with_known k c v))) (faulty Malformed c)

-- any extension, put into a certificate's bytes; one that is not known changes nothing [CE3]
unfoldable pub keeps : List ℕ → Extension → RunResult
keeps c e =
    if_else (is_for Travel e) (keeps_known Travel c e.rights)
    (if_else (is_for Visa e) (keeps_known Visa c e.rights)
    (if_else (is_for Biometrics e) (keeps_known Biometrics c e.rights)
    (whole c)))

-- `73` with `06` and then `53`, of any size [CE1]
abbrev pub extension_form : Form
extension_form = nested 0x73 (plain 0x06 0 65535 (plain 0x53 0 65535 done)) done

-- the two values that a reading notes in t [CE1]
abbrev pub extension_at : List ℕ → Reading → Extension
extension_at t q =
    record {
      identifier = part t (span_at q 0).at (span_at q 0).len;
      rights = part t (span_at q 1).at (span_at q 1).len;
    }

-- the bytes t of an extension, put into a certificate's bytes [CE1] [CE8]
unfoldable pub extension_on : List ℕ → List ℕ → RunResult
extension_on c t = let q = read_all extension_form t in if_else (is_clean q.fault) (keeps c (extension_at t q)) (faulty Malformed c)

-- ---- a run, three runs

-- by the head of an extension: it stands there, or it does not [CE8]
abbrev pub on_front : Head → (ℕ → ℕ → RunResult) → RunResult → RunResult
on_front (Ok (start, len)) go bad = go start len
on_front (Err f) go bad = bad

-- at most k extensions of the run s, put into a certificate's bytes [CE2] [CE8]
unfoldable pub run_in : ℕ → List ℕ → List ℕ → RunResult
run_in zero c s = whole c
run_in (suc k) c s =
    if_else (eqb (length s) 0) (whole c)
    (on_front (head_of 0x73 s)
    (λ start len. on_whole (extension_on c (part s 0 (start + len))) (λ d. run_in k d (drop (start + len) s)))
    (faulty Malformed c))

-- the whole run: no more extensions than bytes [CE2]
unfoldable pub run_on : List ℕ → List ℕ → RunResult
run_on c s = run_in (length s) c s

-- a certificate's bytes before any extension [CE5]
abbrev pub empty_certificate : List ℕ
empty_certificate = replicate 20 0

-- three runs, one for each certificate, up to the first fault [CE7] [CE9]
unfoldable pub runs_on : List ℕ → List ℕ → List ℕ → RunResult
runs_on first second third =
    on_whole (run_on empty_certificate first) (λ a. on_whole (run_on empty_certificate second) (λ b. on_whole (run_on empty_certificate third) (λ c. whole (a ++ (b ++ c)))))

-- the 60 bytes, zeros where there is a fault [CE7] [CE9]
unfoldable pub chain_data : RunResult → List ℕ
chain_data r = if_else (is_ok r.read) r.bytes (replicate 60 0)

-- a buffer with the 60 bytes, where there is no fault; else it stays [CE7] [CE9]
unfoldable pub runs_into : List ℕ → List ℕ → List ℕ → List ℕ → List ℕ
runs_into first second third buf = if_else (is_ok (runs_on first second third).read) (put buf 0 (runs_on first second third).bytes) buf

-- what comes of the runs, as an answer [CE10]
abbrev pub rights_answer : RunRead → Result (Unit {0}) RightsFault
rights_answer (Ok _) = Ok tt
rights_answer (Err w) = Err (Faulty w)

-- what is answered, where the buffer has 60 bytes [CE10]
unfoldable pub read_rights : List ℕ → List ℕ → List ℕ → List ℕ → Result (Unit {0}) RightsFault
read_rights first second third buf = if_else (ltb (length buf) 60) (Err ShortBuffer) (rights_answer (runs_on first second third).read)

-- and the buffer afterwards [CE7] [CE9] [CE10]
unfoldable pub read_rights_into : List ℕ → List ℕ → List ℕ → List ℕ → List ℕ
read_rights_into first second third buf = if_else (ltb (length buf) 60) buf (put buf 0 (chain_data (runs_on first second third)))

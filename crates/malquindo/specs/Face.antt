-- What the functions for C answer, and the session bytes afterwards.
use Rattle.std.specs.Prelude.{ℕ, ◌+◌, ◌*◌, ◌%◌, Bool, false, Option, Some, None, Result, Ok, Err, List, [], ◌∷◌, ◌++◌, length, take, drop, leb, eqb}
use Rattle.base.specs.Choice.{if_else, all_of}
use Rattle.base.specs.Bytes.{put}
use Rattle.machine_apdu.specs.Status.{normal}
use Rattle.machine_session.specs.Verdict.{verdict_number, verdict}
use Rattle.machine_session.specs.declared.Session.{Session}
use Rattle.machine_session.specs.declared.Refusal.TheVariants.{BadSession}
use Rattle.machine_answer.specs.Outcome.{Outcome}
use Rattle.machine_chain.specs.Chain.{Chain, NoChain}
use Rattle.machine_chain.specs.Layout.{chain_bytes, is_chain, chain_in}
use Rattle.machine.specs.Step.{opening}
use Rattle.machine.specs.Lent.{step_lent, chain_into}
use Rattle.machine_cut.specs.Cutting.{CutOutcome, cut_lent}
use Rattle.machine_session_bytes.specs.Layout.{session_bytes, is_session, session_in}
use Rattle.store_image.specs.Image.{find, well_formed}
use Rattle.store_certificates.specs.Certificates.{certificate_refusal, which_body, certificate_stretch}
use Rattle.store_certificates.specs.declared.Located.{Located}
use Rattle.objects_extensions.specs.Faults.{extension_fault_number}
use Rattle.objects_extensions.specs.declared.RightsFault.{RightsFault}
use Rattle.objects_extensions.specs.declared.RightsFault.TheVariants.{Faulty, ShortBuffer}
use Rattle.objects_stamp.specs.Faults.{reason_number}
use Rattle.objects_stamp.specs.declared.StampFault.{StampFault}
use Rattle.objects_stamp.specs.declared.StampFault.TheVariants.{Wrong, ShortList}
use Rattle.store_index.specs.Index.{index_refusal, index_count}
use Rattle.store_move.specs.Moving.{move_refusal_number}
use Rattle.store_move.specs.declared.MoveRefusal.{MoveRefusal}
use Rattle.machine_session.specs.declared.Refusal.{Refusal}

-- verdict · 2^32 + length · 2^16 + status; length and status are below 65,536 [X3]
unfoldable pub result_of : Result (Unit {0}) Refusal → ℕ → ℕ → ℕ
result_of v length status = verdict_number v * 4294967296 + length % 65536 * 65536 + status % 65536

-- an opening: the rights, then whether the session's buffer takes the session [X4]
abbrev pub opening_verdict : Result (Unit {0}) Refusal → Bool → Result (Unit {0}) Refusal
opening_verdict (Ok tt) stored = if_else stored (Ok tt) (Err BadSession)
opening_verdict (Err r) stored = Err r

-- the bytes of a session with its chain [X1]
unfoldable pub whole_bytes : Session → Chain → List ℕ
whole_bytes s ch = session_bytes s ++ chain_bytes ch

-- a session's buffer takes a session [X4]
unfoldable pub takes_session : List ℕ → Bool
takes_session ses = leb 1054 (length ses)

-- the buffer with the session s, without a chain; one that is too short stays [X4]
unfoldable pub opened_in : List ℕ → Session → List ℕ
opened_in ses s = if_else (takes_session ses) (put ses 0 (whole_bytes s NoChain)) ses

-- [X3] [X4]
unfoldable pub open_result : List ℕ → List ℕ → ℕ
open_result c ses = result_of (opening_verdict (opening c).verdict (takes_session ses)) 0 0

-- the session opened, where it fits [X4]
unfoldable pub open_session : List ℕ → List ℕ → List ℕ
open_session c ses = opened_in ses (opening c).session

-- the bytes of the chain stand behind the first 25 [X1]
abbrev pub chain_part : List ℕ → List ℕ
chain_part ses = drop 25 ses

-- bytes that are a session with its chain [X2]
unfoldable pub is_session_c : List ℕ → Bool
is_session_c ses = all_of (is_session ses ∷ is_chain (chain_part ses) ∷ [])

-- the chain that they have [X1]
abbrev pub chain_of_c : List ℕ → Chain
chain_of_c ses = chain_in (chain_part ses)

-- after a command: only 9000 writes the 25 bytes [X5]
unfoldable pub session_after : List ℕ → ℕ → Session → List ℕ
session_after ses status s = if_else (eqb status normal) (put ses 0 (session_bytes s)) ses

-- what one command answers, and every byte of what was lent [X3] [X5]
pub record Called : Type 0 where
  pub result : ℕ
  pub image : List ℕ
  pub session : List ℕ
  pub response : List ℕ

-- [X3] [X5]
abbrev pub called_as : ℕ → List ℕ → List ℕ → List ℕ → Called
called_as r img ses buf = record { result = r; image = img; session = ses; response = buf }

-- [X3] [X5]
abbrev pub called_by : List ℕ → Outcome → Called
called_by ses o =
    called_as (result_of o.answer.verdict o.answer.length o.answer.status) o.image (session_after ses o.answer.status o.answer.session) o.buffer

-- bytes that are no session fit no image: nothing is touched [X2]
unfoldable pub malformed : List ℕ → List ℕ → List ℕ → Called
malformed img ses buf = called_as (result_of (verdict img false (length buf)) 0 0) img ses buf

-- one step of the machine, in the session that the bytes are; the bytes of its chain are written where they stand [X2] [X5]
unfoldable pub called : List ℕ → List ℕ → List ℕ → List ℕ → Called
called img ses cmd buf =
    if_else (is_session ses)
    (called_by (take 25 ses ++ chain_into img (session_in ses) (chain_part ses) cmd (length buf)) (step_lent img (session_in ses) (chain_part ses) cmd buf))
    (malformed img ses buf)

-- of a cut: refusal · 2^32 + how many stores the whole command has, which is below 2^32 [X16]
unfoldable pub cut_result : Result (Unit {0}) Refusal → ℕ → ℕ
cut_result v stores = verdict_number v * 4294967296 + stores % 4294967296

-- what a cut answers, and every byte of the image afterwards [X16]
pub record CalledCut : Type 0 where
  pub result : ℕ
  pub image : List ℕ

-- [X16]
abbrev pub called_cut_as : ℕ → List ℕ → CalledCut
called_cut_as r img = record { result = r; image = img }

-- [X16]
abbrev pub called_cut_by : CutOutcome → CalledCut
called_cut_by o = called_cut_as (cut_result o.answer.verdict o.answer.stores) o.image

-- a cut in the session that the bytes are. Bytes that are no session fit no image: nothing is touched [X2] [X16]
unfoldable pub called_cut : List ℕ → List ℕ → List ℕ → ℕ → CalledCut
called_cut img ses cmd n =
    if_else (is_session ses) (called_cut_by (cut_lent img (session_in ses) (chain_part ses) cmd n)) (called_cut_as (cut_result (verdict img false 2050) 0) img)

-- of a move: refusal · 2^32, or the new image's length, which is below 2^32 [X6]
abbrev pub move_result : Result ℕ MoveRefusal → ℕ
move_result (Ok n) = n
move_result (Err w) = move_refusal_number w * 4294967296

-- of a file: the place of its body · 2^32 + the body's length, both below 2^32; 0 where it is not there [X11]
abbrev pub found_result : Option (ℕ × ℕ) → ℕ
found_result (Some (start, n)) = start % 4294967296 * 4294967296 + n % 4294967296
found_result None = 0

-- 0 where the image is not well formed, too [X11]
unfoldable pub file_result : List ℕ → ℕ → ℕ
file_result img k = if_else (well_formed img) (found_result (find img k)) 0

-- of a certificate: refusal · 2^32 + which body · 2^28 + place · 2^10 + length; the place is below 2^18 and the length below 2^10 [X12]
unfoldable pub certificate_result : Located → ℕ
certificate_result l =
    certificate_refusal l * 4294967296 + which_body l * 268435456 + (certificate_stretch l).start % 262144 * 1024 + (certificate_stretch l).length % 1024

-- of a stamp: the reason · 2^32 + where the fault is, which is below 2^32; 0 where nothing is wrong. A reason is no refusal; the refusal is 15,
-- where the list is too short [X14]
abbrev pub stamp_result : Result (Unit {0}) StampFault → ℕ
stamp_result (Ok _) = 0
stamp_result (Err (Wrong r at)) = reason_number r * 4294967296 + at % 4294967296
stamp_result (Err ShortList) = 15 * 4294967296

-- of an index: refusal · 2^32 + how many places, or how many bytes; either is below 65,536 [X13]
unfoldable pub index_result : Option ℕ → ℕ
index_result a = index_refusal a * 4294967296 + index_count a

-- of the rights of three certificates: refusal · 2^32, where number 1 is that of a buffer that is too short; 0 where there is none [X15]
abbrev pub rights_result : Result (Unit {0}) RightsFault → ℕ
rights_result (Ok _) = 0
rights_result (Err (Faulty w)) = extension_fault_number w * 4294967296
rights_result (Err ShortBuffer) = 4294967296

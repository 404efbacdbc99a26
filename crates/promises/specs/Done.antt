-- A command that is answered 9000 did what it was asked: what stands in the image after a command that writes is answered 9000, and what the answer
-- tells after one that reads. The command is its bytes: ISO's shape with the frame f, CLA and INS, the data field; the file is the one
-- that these bytes mean (Files.antt). Each promise is a type; the theorem of the same name is in ../proofs/Promises.antt. READ RECORD and SEARCH
-- RECORD stand in Promises.antt. Read before: Files.antt, Promises.antt.
use Rattle.std.specs.Prelude.{ℕ, ◌+◌, ◌-◌, ◌/◌, ◌%◌, ◌≤◌, ◌<◌, min, max, ◌≡◌, true, length, get_or, Some}
use mathlib.Core.List.{List, [], ◌∷◌, ◌++◌, Memᴰ}
use Rattle.base.specs.Bytes.{part, splice, AllBytes}
use Rattle.store_kinds.specs.Biometrics.{state, written, written_bytes}
use Rattle.store_kinds.specs.Rules.{biometrics_kind}
use Rattle.store_kinds.specs.declared.rules.Rule.{Rule}
use Rattle.store_image.specs.Image.{has, present, well_formed, body, records_of}
use Rattle.objects_writer.specs.Number.{big}
use Rattle.objects_templates.specs.Reference.{reference_data}
use Rattle.objects_writer.specs.Writing.{tlv}
use Rattle.objects_templates.specs.OffsetObject.{OffsetSize, offset_data}
use Rattle.objects_templates.specs.Update.{update_data, UpdateSized}
use Rattle.machine_rights.specs.Rights.{flagged}
use Rattle.store_files.specs.Files.{id_of, file_bytes}
use Rattle.store_files.specs.Master.{aid_of}
use Rattle.store_files.specs.declared.Transparent.{Transparent}
use Rattle.store_files.specs.declared.Transparent.TheVariants.{Biometrics}
use Rattle.store_files.specs.declared.File.{File}
use Rattle.store_files.specs.declared.File.TheVariants.{RecordFile, TransparentFile}
use Rattle.machine_session.specs.Session.{placed, entered, set_file}
use Rattle.machine_session.specs.declared.Place.TheVariants.{OnFile, OnRecord}
use Rattle.machine_session.specs.declared.Session.{Session}
use Rattle.machine_session.specs.declared.Named.{Named}
use Rattle.machine_session.specs.declared.Named.TheVariants.{Current, Short, Id}
use Rattle.machine_session.specs.declared.Access.TheVariants.{Append}
use Rattle.machine_apdu.specs.declared.Frame.{Frame}
use Rattle.machine_action.specs.Tests.{p1p2, id_in}
use Rattle.machine_chain.specs.Chain.{Chain, so_far}
use Rattle.machine_dispatch.specs.Decide.{data_of}
use Rattle.machine_reply_fmm.specs.Report.{total, remaining, existing, report_data}
use Rattle.machine_answer.specs.Outcome.{Outcome}
use Rattle.machine.specs.Step.{step}
use Rattle.promises.specs.Files.{is_meant_by_p2, Permitted, Inspected, WritesTo}
use Rattle.promises.specs.Calls.{is_pair, whole_of}
use Rattle.promises.specs.Promises.{data_in}

-- the image `new` differs from `img` in the file of kind k alone: the same files are there, and every other is what it was, byte for byte [C13]
pub record Only (k : ℕ) (img new : List ℕ) : Type 0 where
  pub well : well_formed new ≡ true
  pub size : length new ≡ length img
  pub files : (j : ℕ) → has new j ≡ has img j
  pub others : (j : ℕ) → (j ≡ k → ⊥) → body new j ≡ body img j

-- the command cmd of frame f, with these CLA and INS, is answered 9000 [C13]
pub record Obeyed (img : List ℕ) (s : Session) (ch : Chain) (cmd buf : List ℕ) (f : Frame) (cla ins : ℕ) : Type 0 where
  pub shape : whole_of ch cmd ≡ Some f
  pub pair : is_pair f cla ins ≡ true
  pub status : (step img s ch cmd buf).answer.status ≡ 0x9000

-- ---- APPEND RECORD

-- the file's records are those of before and behind them the data field. The new record becomes the current one. [C13] [G4]
pub record Appended (img : List ℕ) (s : Session) (ch : Chain) (cmd : List ℕ) (f : Frame) (o : Outcome) : Type 0 where
  pub rule : Rule
  pub meant : is_meant_by_p2 s (f.header.p2 / 8) (RecordFile rule) ≡ true
  pub permitted : Permitted s Append rule
  pub records : records_of o.image rule.kind ≡ records_of img rule.kind ++ (data_of ch cmd ∷ [])
  pub only : Only rule.kind img o.image
  pub current : o.answer.session ≡ placed s (OnRecord rule.id (length (records_of img rule.kind) + 1))

-- [C13]
abbrev pub AppendDone : Type 0
AppendDone = (img : List ℕ) (s : Session) (ch : Chain) (cmd buf : List ℕ) (f : Frame) → Obeyed img s ch cmd buf f 0x00 0xE2 → Appended img s ch cmd f (step img s ch cmd buf)

-- ---- UPDATE BINARY

-- the data field is the writing of an offset and of bytes; these bytes stand from that offset on, before and behind them what stood
-- there. What is written never shrinks, and the file becomes the current one. [C13] [W5]
pub record Updated (img : List ℕ) (s : Session) (ch : Chain) (cmd : List ℕ) (f : Frame) (o : Outcome) : Type 0 where
  pub number : ℕ
  pub offset : List ℕ
  pub bytes : List ℕ
  -- P1-P2 is the file's id, and 0000 means the current file
  pub of_current : p1p2 f ≡ 0 → WritesTo img s Current number
  pub of_id : (p1p2 f ≡ 0 → ⊥) → WritesTo img s (Id (p1p2 f)) number
  pub writes : data_of ch cmd ≡ update_data offset bytes
  pub sized : UpdateSized offset bytes
  pub stands : written_bytes (body o.image (biometrics_kind number)) ≡ splice (written_bytes (body img (biometrics_kind number))) (big offset) bytes
  pub larger : written (body o.image (biometrics_kind number)) ≡ max (written (body img (biometrics_kind number))) (big offset + length bytes)
  pub state_kept : state (body o.image (biometrics_kind number)) ≡ state (body img (biometrics_kind number))
  pub only : Only (biometrics_kind number) img o.image
  pub current : o.answer.session ≡ set_file s (TransparentFile (Biometrics number))

-- [C13]
abbrev pub UpdateDone : Type 0
UpdateDone =
    (img : List ℕ) (s : Session) (ch : Chain) (cmd buf : List ℕ) (f : Frame)
    → AllBytes (so_far ch)
    → AllBytes cmd
    → Obeyed img s ch cmd buf f 0x00 0xD7
    → Updated img s ch cmd f (step img s ch cmd buf)

-- ---- ACTIVATE

-- the current file is Activated, and nothing else of it changes [C13] [A2]
pub record Activated (img : List ℕ) (s : Session) (o : Outcome) : Type 0 where
  pub number : ℕ
  pub of_current : WritesTo img s Current number
  pub active : state (body o.image (biometrics_kind number)) ≡ 1
  pub written_kept : written (body o.image (biometrics_kind number)) ≡ written (body img (biometrics_kind number))
  pub content_kept : written_bytes (body o.image (biometrics_kind number)) ≡ written_bytes (body img (biometrics_kind number))
  pub only : Only (biometrics_kind number) img o.image
  pub current : o.answer.session ≡ s

-- [C13]
abbrev pub ActivateDone : Type 0
ActivateDone = (img : List ℕ) (s : Session) (ch : Chain) (cmd buf : List ℕ) (f : Frame) → Obeyed img s ch cmd buf f 0x00 0x44 → Activated img s (step img s ch cmd buf)

-- ---- READ BINARY

-- the file's bytes from the offset on: at most Ne, at most 2,048, at most to the file's end. The file becomes the current one. [C13] [Y5]
pub record Fetched (img : List ℕ) (s : Session) (f : Frame) (o : Outcome) : Type 0 where
  pub file : Transparent
  pub offset : ℕ
  -- P1-P2 is an offset in the current file; or P1 from 80 on has a short id in its five low bits, and P2 is the offset
  pub of_current : f.header.p1 < 0x80 → Inspected img s Current (TransparentFile file) × (offset ≡ p1p2 f)
  pub of_short : 0x80 ≤ f.header.p1 → Inspected img s (Short (f.header.p1 % 0x20)) (TransparentFile file) × (offset ≡ f.header.p2)
  pub inside : offset < length (file_bytes img file)
  pub told : data_in o ≡ part (file_bytes img file) offset (min f.ne (min 2048 (length (file_bytes img file) - offset)))
  pub image_kept : o.image ≡ img
  pub current : o.answer.session ≡ set_file s (TransparentFile file)

-- [C13]
abbrev pub ReadDone : Type 0
ReadDone = (img : List ℕ) (s : Session) (ch : Chain) (cmd buf : List ℕ) (f : Frame) → Obeyed img s ch cmd buf f 0x00 0xB0 → Fetched img s f (step img s ch cmd buf)

-- ---- READ BINARY with the odd INS, B1

-- the data field is the writing of an offset. The reply is `53` with the file's bytes from that offset on: as many as the file has there, and
-- a reply of at most Ne and at most 2,048 bytes can hold. The file becomes the current one. [C13] [Y10]
pub record FetchedOdd (img : List ℕ) (s : Session) (ch : Chain) (cmd : List ℕ) (f : Frame) (o : Outcome) : Type 0 where
  pub file : Transparent
  pub offset : List ℕ
  pub bytes : List ℕ
  -- P1-P2 is the file's id, and 0000 means the current file
  pub of_current : p1p2 f ≡ 0 → Inspected img s Current (TransparentFile file)
  pub of_id : (p1p2 f ≡ 0 → ⊥) → Inspected img s (Id (p1p2 f)) (TransparentFile file)
  pub asks : data_of ch cmd ≡ offset_data offset
  pub size : OffsetSize offset
  pub told : data_in o ≡ tlv 0x53 bytes
  pub content : bytes ≡ part (file_bytes img file) (big offset) (length bytes)
  pub some : 1 ≤ length bytes
  pub inside : big offset + length bytes ≤ length (file_bytes img file)
  pub fits : length (data_in o) ≤ min f.ne 2048
  -- one byte more would go past the file's end, or make the reply too long
  pub as_many : (more : List ℕ) → length bytes < length more → big offset + length more ≤ length (file_bytes img file)
      → min f.ne 2048 < length (tlv 0x53 more)
  pub image_kept : o.image ≡ img
  pub current : o.answer.session ≡ set_file s (TransparentFile file)

-- [C13]
abbrev pub ReadOddDone : Type 0
ReadOddDone =
    (img : List ℕ) (s : Session) (ch : Chain) (cmd buf : List ℕ) (f : Frame)
    → AllBytes (so_far ch)
    → AllBytes cmd
    → Obeyed img s ch cmd buf f 0x00 0xB1
    → FetchedOdd img s ch cmd f (step img s ch cmd buf)

-- ---- SELECT

-- by P1: an application that is there and whose flag is on; a file of the selected application, which then has no current record; the
-- master file. An application, or the master file, has no current file at first. [C13] [L6] [L7]
pub record Selected (img : List ℕ) (s : Session) (ch : Chain) (cmd : List ℕ) (f : Frame) (o : Outcome) : Type 0 where
  pub p1_known : Memᴰ f.header.p1 (0x04 ∷ 0x02 ∷ 0x00 ∷ [])
  pub by_aid : f.header.p1 ≡ 0x04
      → (a : ℕ) × (aid_of (data_of ch cmd) ≡ Some a) × (present img a ≡ true) × (flagged s.rights a ≡ true) × (o.answer.session ≡ entered s a)
  pub by_file_id : f.header.p1 ≡ 0x02
      → (file : File) × (length (data_of ch cmd) ≡ 2) × Inspected img s (Id (id_in (data_of ch cmd))) file × (o.answer.session ≡ placed s (OnFile (id_of file)))
  pub by_master : f.header.p1 ≡ 0x00 → (length (data_of ch cmd) ≡ 2) × (id_in (data_of ch cmd) ≡ 0x3F00) × (o.answer.session ≡ entered s 0)
  pub image_kept : o.image ≡ img
  pub nothing_told : o.answer.length ≡ 2

-- [C13]
abbrev pub SelectDone : Type 0
SelectDone = (img : List ℕ) (s : Session) (ch : Chain) (cmd buf : List ℕ) (f : Frame) → Obeyed img s ch cmd buf f 0x00 0xA4 → Selected img s ch cmd f (step img s ch cmd buf)

-- ---- FMM

-- the data d is `51` with a reference of one byte, a short id in b8 to b4, or of two, an id; n is the file that it names [C13] [Z2]
pub record Referred (d : List ℕ) (n : Named) : Type 0 where
  pub reference : List ℕ
  pub writes : d ≡ reference_data reference
  pub size : (1 ≤ length reference) × (length reference ≤ 2)
  pub by_short_id : length reference ≡ 1 → (get_or reference 0 0 % 8 ≡ 0) × (n ≡ Short (get_or reference 0 0 / 8))
  pub by_file_id : length reference ≡ 2 → n ≡ Id (id_in reference)

-- the current file, or the one that the data refers to; its numbers that P2 asks for. The file becomes the current one. [C13] [Z4]
pub record Reported (img : List ℕ) (s : Session) (ch : Chain) (cmd : List ℕ) (f : Frame) (o : Outcome) : Type 0 where
  pub file : File
  pub named : Named
  pub of_current : f.header.p1 ≡ 0 → named ≡ Current
  pub of_named : (f.header.p1 ≡ 0 → ⊥) → Referred (data_of ch cmd) named
  pub reached : Inspected img s named file
  pub told : data_in o ≡ report_data f.header.p2 (total img file) (remaining img file) (existing img file)
  pub image_kept : o.image ≡ img
  pub current : o.answer.session ≡ set_file s file

-- [C13]
abbrev pub FmmDone : Type 0
FmmDone =
    (img : List ℕ) (s : Session) (ch : Chain) (cmd buf : List ℕ) (f : Frame)
    → AllBytes (so_far ch)
    → AllBytes cmd
    → Obeyed img s ch cmd buf f 0x80 0x5E
    → Reported img s ch cmd f (step img s ch cmd buf)

-- A command that is cut: the traveller lifts the book while it is being stored, and only the first of its stores are made. Each promise is a
-- type; the theorem of the same name is in ../proofs/Promises.antt. Read before: Calls.antt, Linked.antt.
use Rattle.std.specs.Prelude.{ℕ, ◌+◌, ◌*◌, ◌/◌, ◌%◌, ◌≤◌, ◌<◌, ◌≡◌, true, false, length, take, Some}
use mathlib.Core.List.{List, [], ◌∷◌, ◌++◌, Memᴰ}
use Rattle.base.specs.Choice.{if_else}
use Rattle.store_records.specs.Body.{count, used, record_bytes}
use Rattle.store_kinds.specs.Rules.{is_biometrics, biometrics_kind}
use Rattle.store_cut.specs.Stores.{Store, at, run, made}
use Rattle.store_image.specs.Image.{find, well_formed, body, records_of}
use Rattle.machine_apdu.specs.Shape.{shape_of}
use Rattle.machine_apdu.specs.declared.Frame.{Frame}
use Rattle.machine_session.specs.Session.{session_fits}
use Rattle.machine_session.specs.Verdict.{verdict_number}
use Rattle.machine_session.specs.declared.Session.{Session}
use Rattle.machine_session.specs.declared.Named.TheVariants.{Current}
use Rattle.machine_chain.specs.Chain.{Chain}
use Rattle.machine_dispatch.specs.Decide.{data_of}
use Rattle.machine_answer.specs.Outcome.{Outcome}
use Rattle.machine.specs.Step.{verdict_on, step}
use Rattle.machine_cut.specs.Cutting.{CutOutcome, cut}
use Rattle.machine_session_bytes.specs.Layout.{session_in}
use Rattle.malquindo.specs.Face.{is_session_c, chain_of_c, CalledCut, called_cut}
use Rattle.promises.specs.Files.{is_meant_kind, WritesTo}
use Rattle.promises.specs.Calls.{is_pair, whole_of}
use Rattle.promises.specs.Linked.{refusal_in, cut_stores_in}

-- ---- which commands have stores, and how many

-- beside the whole command with the response buffer buf, which is long enough [CU2] [CU3] [CU5]
pub record StoresThere (img : List ℕ) (s : Session) (ch : Chain) (cmd buf : List ℕ) (c : CutOutcome) : Type 0 where
  -- a cut is refused as a command is whose response buffer is long enough: with 2, with 4 or not at all
  pub verdict_same : c.answer.verdict ≡ verdict_on img s ch 2050
  pub number : Memᴰ (verdict_number c.answer.verdict) (0 ∷ 2 ∷ 4 ∷ [])
  -- none where the whole command is not answered 9000
  pub none_refused : ((step img s ch cmd buf).answer.status ≡ 0x9000 → ⊥) → c.answer.stores ≡ 0
  -- an append has four more than its data has bytes, ACTIVATE one, no other command any
  pub append : (f : Frame) → whole_of ch cmd ≡ Some f → is_pair f 0x00 0xE2 ≡ true → (step img s ch cmd buf).answer.status ≡ 0x9000 → c.answer.stores ≡ length (data_of ch cmd) + 4
  pub activate : (f : Frame) → whole_of ch cmd ≡ Some f → is_pair f 0x00 0x44 ≡ true → (step img s ch cmd buf).answer.status ≡ 0x9000 → c.answer.stores ≡ 1
  -- a link but the last has another CLA
  pub none_other : (f : Frame) → shape_of cmd ≡ Some f → is_pair f 0x00 0xE2 ≡ false → is_pair f 0x00 0x44 ≡ false → c.answer.stores ≡ 0
  -- without stores the image stays
  pub image_kept : c.answer.stores ≡ 0 → c.image ≡ img

-- [CU5] [CU6]
abbrev pub CutStores : Type 0
CutStores = (img : List ℕ) (s : Session) (ch : Chain) (cmd buf : List ℕ) (n : ℕ) → 2050 ≤ length buf → StoresThere img s ch cmd buf (cut img s ch cmd n)

-- ---- "And if the power goes in the middle?"

-- the records of every file, and the state and the bytes of every biometrics file, are the same [CU7]
pub record SameContent (img new : List ℕ) : Type 0 where
  pub records : (k : ℕ) → is_biometrics k ≡ false → records_of new k ≡ records_of img k
  pub biometrics : (k : ℕ) → is_biometrics k ≡ true → body new k ≡ body img k

-- what a cut behind n stores leaves of a well-formed image [CU7]
pub record Left (img : List ℕ) (s : Session) (ch : Chain) (cmd : List ℕ) (n : ℕ) (c : CutOutcome) : Type 0 where
  -- it is well formed, and every file stands where it stood
  pub well : well_formed c.image ≡ true
  pub places : (k : ℕ) → find c.image k ≡ find img k
  -- before the last store: what was there before the command
  pub before : n < c.answer.stores → SameContent img c.image
  -- with the last store: what the whole command leaves, every byte
  pub after : (buf : List ℕ) → 2050 ≤ length buf → 1 ≤ c.answer.stores → c.answer.stores ≤ n → c.image ≡ (step img s ch cmd buf).image
  -- every session that fitted still fits
  pub sessions : (t : Session) → session_fits img t ≡ true → session_fits c.image t ≡ true

-- [CU7]
abbrev pub CutLeaves : Type 0
CutLeaves = (img : List ℕ) (s : Session) (ch : Chain) (cmd : List ℕ) (n : ℕ) → well_formed img ≡ true → Left img s ch cmd n (cut img s ch cmd n)

-- ---- the stores, as places in the image and bytes

-- an append of d to the file whose body b begins at `start`: the record's length, its bytes, the count's high byte, the count's low byte [CU2]
abbrev pub append_list : ℕ → List ℕ → List ℕ → List Store
append_list start b d = run (start + used b) (record_bytes d) ++ (at (start + 1) ((count b + 1) / 256 % 256) ∷ at start ((count b + 1) % 256) ∷ [])

-- an APPEND RECORD that would be answered 9000, cut behind n stores [CU2] [CU4]
pub record AppendCut (img : List ℕ) (s : Session) (ch : Chain) (cmd : List ℕ) (f : Frame) (n : ℕ) : Type 0 where
  pub kind : ℕ
  pub start : ℕ
  pub room : ℕ
  -- the file that P2 means, where it stands
  pub meant : is_meant_kind s (f.header.p2 / 8) kind ≡ true
  pub stands : find img kind ≡ Some (start, room)
  pub stored : (cut img s ch cmd n).image ≡ made (take n (append_list start (body img kind) (data_of ch cmd))) img

-- [CU2] [CU4]
abbrev pub AppendInOrder : Type 0
AppendInOrder =
    (img : List ℕ) (s : Session) (ch : Chain) (cmd buf : List ℕ) (f : Frame) (n : ℕ)
    → whole_of ch cmd ≡ Some f
    → is_pair f 0x00 0xE2 ≡ true
    → (step img s ch cmd buf).answer.status ≡ 0x9000
    → AppendCut img s ch cmd f n

-- an ACTIVATE that would be answered 9000 has one store, the file's state [CU3] [CU4]
pub record ActivateCut (img : List ℕ) (s : Session) (ch : Chain) (cmd : List ℕ) (n : ℕ) : Type 0 where
  pub number : ℕ
  pub start : ℕ
  pub room : ℕ
  -- the current file, where it stands
  pub of_current : WritesTo img s Current number
  pub stands : find img (biometrics_kind number) ≡ Some (start, room)
  pub stored : (cut img s ch cmd n).image ≡ made (take n (at start 1 ∷ [])) img

-- [CU3] [CU4]
abbrev pub ActivateInOrder : Type 0
ActivateInOrder =
    (img : List ℕ) (s : Session) (ch : Chain) (cmd buf : List ℕ) (f : Frame) (n : ℕ)
    → whole_of ch cmd ≡ Some f
    → is_pair f 0x00 0x44 ≡ true
    → (step img s ch cmd buf).answer.status ≡ 0x9000
    → ActivateCut img s ch cmd n

-- ---- what lies in the free room from a cut does not matter

-- an APPEND RECORD behind a cut gets the answer that it gets where there was no cut, and leaves the list that it leaves there [CU8]
pub record NextAppend (o p : Outcome) : Type 0 where
  pub answer_same : p.answer ≡ o.answer
  pub buffer_same : p.buffer ≡ o.buffer
  pub lists_same : (k : ℕ) → is_biometrics k ≡ false → records_of p.image k ≡ records_of o.image k

-- [CU8]
abbrev pub RoomUsed : Type 0
RoomUsed =
    (img : List ℕ) (s : Session) (ch : Chain) (cmd : List ℕ) (n : ℕ) (t : Session) (c : Chain) (next buf : List ℕ) (f : Frame)
    → well_formed img ≡ true
    → n < (cut img s ch cmd n).answer.stores
    → whole_of c next ≡ Some f
    → is_pair f 0x00 0xE2 ≡ true
    → NextAppend (step img t c next buf) (step (cut img s ch cmd n).image t c next buf)

-- ---- the same for C

-- a cut is `cut`, in the session that the bytes are. Bytes that are no session get a refusal, and nothing is touched [X2] [X16]
pub record CutSeen (img ses cmd : List ℕ) (n : ℕ) (c : CalledCut) : Type 0 where
  pub refusal : is_session_c ses ≡ true → refusal_in c.result ≡ verdict_number (cut img (session_in ses) (chain_of_c ses) cmd n).answer.verdict
  pub stores : is_session_c ses ≡ true → cut_stores_in c.result ≡ (cut img (session_in ses) (chain_of_c ses) cmd n).answer.stores
  pub image : is_session_c ses ≡ true → c.image ≡ (cut img (session_in ses) (chain_of_c ses) cmd n).image
  pub malformed : is_session_c ses ≡ false → (c.result ≡ if_else (well_formed img) 4 2 * 4294967296) × (c.image ≡ img)

-- [X16]
abbrev pub CCuts : Type 0
CCuts = (img ses cmd : List ℕ) (n : ℕ) → CutSeen img ses cmd n (called_cut img ses cmd n)

-- READ BINARY has two forms: B0, with the offset in P1-P2, and the odd INS B1, with the offset in the data and a reply that is an object. B1 reaches
-- every byte of a file; where both reach a byte, they return the same file bytes. Each promise is a type; the theorem of the same name is in
-- ../proofs/Promises.antt. Read before: Files.antt, Done.antt.
use Rattle.std.specs.Prelude.{ℕ, ◌/◌, ◌%◌, ◌≤◌, ◌<◌, ◌≡◌, true, List, length, take, Some}
use Rattle.objects_writer.specs.Number.{big}
use Rattle.objects_writer.specs.Writing.{tlv}
use Rattle.objects_templates.specs.OffsetObject.{OffsetSize, offset_data}
use Rattle.store_files.specs.Files.{file_bytes}
use Rattle.store_files.specs.declared.Transparent.{Transparent}
use Rattle.store_files.specs.declared.File.TheVariants.{TransparentFile}
use Rattle.machine_apdu.specs.declared.Frame.{Frame}
use Rattle.machine_session.specs.Resolve.{may_inspect}
use Rattle.machine_session.specs.Verdict.{verdict_number}
use Rattle.machine_session.specs.declared.Session.{Session}
use Rattle.machine_session.specs.declared.Named.TheVariants.{Current, Short, Id}
use Rattle.machine_action.specs.Tests.{p1p2}
use Rattle.machine_chain.specs.Chain.{Chain}
use Rattle.machine_dispatch.specs.Decide.{data_of}
use Rattle.machine_answer.specs.Outcome.{Outcome}
use Rattle.machine.specs.Step.{step}
use Rattle.promises.specs.Calls.{is_pair, whole_of}
use Rattle.promises.specs.Files.{is_meant, is_there}
use Rattle.promises.specs.Promises.{data_in}

-- cmd is a READ BINARY B0 from `offset` of the transparent file t on: P1-P2 is an offset in the current file; or the three high bits of P1 are 100,
-- its five low bits are a short id, and P2 is the offset [C25]
pub record EvenRead (s : Session) (ch : Chain) (cmd : List ℕ) (f : Frame) (t : Transparent) (offset : ℕ) : Type 0 where
  pub shape : whole_of ch cmd ≡ Some f
  pub pair : is_pair f 0x00 0xB0 ≡ true
  pub no_lc : f.lc ≡ 0
  pub le : 1 ≤ f.le
  pub of_current : f.header.p1 < 0x80 → (is_meant s Current (TransparentFile t) ≡ true) × (offset ≡ p1p2 f)
  pub of_short : 0x80 ≤ f.header.p1
      → (f.header.p1 / 0x20 ≡ 4) × (is_meant s (Short (f.header.p1 % 0x20)) (TransparentFile t) ≡ true) × (offset ≡ f.header.p2)

-- cmd is a READ BINARY B1 from `offset` of the transparent file t on: P1-P2 is the file's id, and 0000 means the current file [C25] [C26]
pub record OddRead (s : Session) (ch : Chain) (cmd : List ℕ) (f : Frame) (t : Transparent) (offset : ℕ) : Type 0 where
  pub shape : whole_of ch cmd ≡ Some f
  pub pair : is_pair f 0x00 0xB1 ≡ true
  pub lc : 1 ≤ f.lc
  pub le : 1 ≤ f.le
  pub of_current : p1p2 f ≡ 0 → is_meant s Current (TransparentFile t) ≡ true
  pub of_id : (p1p2 f ≡ 0 → ⊥) → is_meant s (Id (p1p2 f)) (TransparentFile t) ≡ true
  pub value : List ℕ
  pub asks : data_of ch cmd ≡ offset_data value
  pub size : OffsetSize value
  pub offset_is : offset ≡ big value

-- o is the outcome of a B0 and p that of a B1 with this Ne, from the same place of the same file on [C25]
pub record SameRead (ne : ℕ) (o p : Outcome) : Type 0 where
  -- both get the same word. Only where B0 returns bytes and Ne has no room for one of them in an object, B1 gets 6700
  pub status : 3 ≤ ne → p.answer.status ≡ o.answer.status
  pub too_short : ne < 3 → o.answer.status ≡ 0x9000 → p.answer.status ≡ 0x6700
  pub other_word : (o.answer.status ≡ 0x9000 → ⊥) → p.answer.status ≡ o.answer.status
  -- what is wrapped and what is not are the same, up to the shorter
  pub bytes : p.answer.status ≡ 0x9000
      → (wrapped : List ℕ) × (data_in p ≡ tlv 0x53 wrapped) × (take (length wrapped) (data_in o) ≡ take (length (data_in o)) wrapped)
  pub session : p.answer.status ≡ 0x9000 → p.answer.session ≡ o.answer.session
  pub image : p.image ≡ o.image

-- on any image, in any session, behind any chains, with any buffers, where neither is refused [C25]
abbrev pub BothReads : Type 0
BothReads =
    (img : List ℕ) (s : Session) (ch c : Chain) (even odd buf other : List ℕ) (f g : Frame) (t : Transparent) (offset : ℕ)
    → verdict_number (step img s ch even buf).answer.verdict ≡ 0
    → verdict_number (step img s c odd other).answer.verdict ≡ 0
    → EvenRead s ch even f t offset
    → OddRead s c odd g t offset
    → SameRead g.ne (step img s ch even buf) (step img s c odd other)

-- how a B1 from `offset` of the file t on is answered, by the file's size and Ne [C26]
pub record OddAnswered (img : List ℕ) (t : Transparent) (offset ne : ℕ) (o : Outcome) : Type 0 where
  pub past_end : length (file_bytes img t) ≤ offset → o.answer.status ≡ 0x6B00
  pub no_room : offset < length (file_bytes img t) → ne < 3 → o.answer.status ≡ 0x6700
  pub read : offset < length (file_bytes img t) → 3 ≤ ne → o.answer.status ≡ 0x9000

-- the card has the file, and the session may read it: then B1 reaches each of its bytes [C26]
abbrev pub OddReaches : Type 0
OddReaches =
    (img : List ℕ) (s : Session) (ch : Chain) (cmd buf : List ℕ) (f : Frame) (t : Transparent) (offset : ℕ)
    → verdict_number (step img s ch cmd buf).answer.verdict ≡ 0
    → OddRead s ch cmd f t offset
    → is_there img (TransparentFile t) ≡ true
    → may_inspect img s (TransparentFile t) ≡ true
    → OddAnswered img t offset f.ne (step img s ch cmd buf)

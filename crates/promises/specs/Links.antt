-- Commands in links: what a link but the last does, and that a command sent in links ends as the same command sent whole. Each promise is a type; the
-- theorem of the same name is in ../proofs/Promises.antt. Read before: Calls.antt, Promises.antt.
use Rattle.std.specs.Prelude.{ℕ, ◌+◌, ◌≤◌, ◌≡◌, true, false, ◌⊎◌, length, Some}
use mathlib.Core.List.{List, [], ◌∷◌, ◌++◌, Memᴰ}
use Rattle.base.specs.Bytes.{part}
use Rattle.machine_apdu.specs.Shape.{shape_of}
use Rattle.machine_apdu.specs.declared.Frame.{Frame}
use Rattle.machine_apdu.specs.declared.Header.{Header}
use Rattle.machine_session.specs.Verdict.{verdict_number}
use Rattle.machine_session.specs.declared.Session.{Session}
use Rattle.machine_chain.specs.Chain.{Chain, NoChain, Links, so_far, goes_on}
use Rattle.machine_link.specs.Parameters.{parameters_fit}
use Rattle.machine_link.specs.Link.{is_link}
use Rattle.machine_dispatch.specs.Decide.{whole_frame}
use Rattle.machine_answer.specs.Outcome.{Outcome}
use Rattle.machine.specs.Step.{step, chain_after}
use Rattle.promises.specs.Calls.{whole_of}

-- ---- a link but the last

-- CLA 10 and 90, each with the INS that CLA 00 and 80 have [O3] [LK4]
abbrev pub LinkPair : Header → Type 0
LinkPair h =
    ((h.cla ≡ 0x10) × Memᴰ h.ins (0xA4 ∷ 0xB0 ∷ 0xB1 ∷ 0xD7 ∷ 0x44 ∷ 0xE2 ∷ 0xB2 ∷ 0xA2 ∷ [])) ⊎ ((h.cla ≡ 0x90) × (h.ins ≡ 0x5E))

-- the link of frame f is one that the chain ch takes [LK5]
pub record Takes (ch : Chain) (f : Frame) : Type 0 where
  pub pair : LinkPair f.header
  pub continues : goes_on ch f.header ≡ true
  pub parameters : parameters_fit f.header.ins f.header.p1 f.header.p2 ≡ true
  pub some : 1 ≤ f.lc
  pub no_le : f.le ≡ 0
  pub fits : length (so_far ch) + f.lc ≤ 1024

-- what it gets; `left` is the chain afterwards [C27]
pub record LinkAnswered (img : List ℕ) (s : Session) (ch : Chain) (cmd : List ℕ) (f : Frame) (o : Outcome) (left : Chain) : Type 0 where
  -- 9000 exactly where the chain takes it
  pub taken_complete : Takes ch f → o.answer.status ≡ 0x9000
  pub taken_sound : o.answer.status ≡ 0x9000 → Takes ch f
  -- its data then stand behind those of the links before it
  pub joins : o.answer.status ≡ 0x9000 → left ≡ Links f.header.ins f.header.p1 f.header.p2 (so_far ch ++ part cmd f.from f.lc)
  -- and nothing else changes: no file is set, no image written, no data told
  pub image_kept : o.image ≡ img
  pub session_kept : o.answer.session ≡ s
  pub nothing_told : o.answer.length ≡ 2
  -- another header amid a chain
  pub another_header : LinkPair f.header → goes_on ch f.header ≡ false → o.answer.status ≡ 0x6883

-- [C27]
abbrev pub EachLinkAnswered : Type 0
EachLinkAnswered =
    (img : List ℕ) (s : Session) (ch : Chain) (cmd buf : List ℕ) (f : Frame)
    → verdict_number (step img s ch cmd buf).answer.verdict ≡ 0
    → shape_of cmd ≡ Some f
    → is_link f.header ≡ true
    → LinkAnswered img s ch cmd f (step img s ch cmd buf) (chain_after img s ch cmd (length buf))

-- a command that is no link and is answered 9000 or 6282 goes on with the chain, and the join has at most 1,024 bytes [C27]
abbrev pub GoesOn : Type 0
GoesOn =
    (img : List ℕ) (s : Session) (ch : Chain) (cmd buf : List ℕ) (f : Frame)
    → shape_of cmd ≡ Some f
    → is_link f.header ≡ false
    → ((step img s ch cmd buf).answer.status ≡ 0x9000) ⊎ ((step img s ch cmd buf).answer.status ≡ 0x6282)
    → whole_of ch cmd ≡ Some (whole_frame ch f)

-- ---- a command in links, however it is cut

-- the image, the session and its chain between two commands [C28]
pub record Between : Type 0 where
  pub image : List ℕ
  pub session : Session
  pub chain : Chain

-- after a command cmd with the response buffer buf [C28]
abbrev pub after_sending : Between → List ℕ → List ℕ → Between
after_sending b cmd buf = record {
  image = (step b.image b.session b.chain cmd buf).image;
  session = (step b.image b.session b.chain cmd buf).answer.session;
  chain = chain_after b.image b.session b.chain cmd (length buf);
}

-- a link: its bytes, its response buffer, and the piece of the data that it carries [C28]
pub record Link : Type 0 where
  pub command : List ℕ
  pub buffer : List ℕ
  pub piece : List ℕ

-- after links, one behind the other [C28]
unfoldable pub after_links : Between → List Link → Between
after_links b [] = b
after_links b (l ∷ ls) = after_links (after_sending b l.command l.buffer) ls

-- the data that they carry [C28]
unfoldable pub pieces : List Link → List ℕ
pieces [] = []
pieces (l ∷ ls) = l.piece ++ pieces ls

-- l is a link of a command with the header h: CLA with b5, the other bytes of h, a piece of 1 to 1,024 bytes and no Le; its response buffer is long enough [C28]
pub record IsLink (h : Header) (l : Link) : Type 0 where
  pub frame : Frame
  pub shape : shape_of l.command ≡ Some frame
  pub class : frame.header.cla ≡ h.cla + 0x10
  pub ins : frame.header.ins ≡ h.ins
  pub p1 : frame.header.p1 ≡ h.p1
  pub p2 : frame.header.p2 ≡ h.p2
  pub carries : part l.command frame.from frame.lc ≡ l.piece
  pub some : 1 ≤ frame.lc
  pub no_le : frame.le ≡ 0
  pub long : 2050 ≤ length l.buffer

-- all of them are [C28]
abbrev pub AllLinks : Header → List Link → Type 0
AllLinks h [] = Unit {0}
AllLinks h (l ∷ ls) = IsLink h l × AllLinks h ls

-- the command `whole` of frame f, cut into links and a last command with the same Le: the pieces and the data of the last are its data, in order [C28]
pub record CutInto (whole : List ℕ) (f : Frame) (ls : List Link) (last : List ℕ) : Type 0 where
  pub shape : shape_of whole ≡ Some f
  pub no_link : is_link f.header ≡ false
  pub links : AllLinks f.header ls
  pub frame : Frame
  pub last_shape : shape_of last ≡ Some frame
  pub last_header : frame.header ≡ f.header
  pub last_le : frame.le ≡ f.le
  pub last_ne : frame.ne ≡ f.ne
  pub all_data : pieces ls ++ part last frame.from frame.lc ≡ part whole f.from f.lc

-- from a session without a chain: the last gets the answer of the whole, and leaves its image, its session and its buffer; where its response buffer
-- is long enough it ends the chain too. A shorter one is refused, and a refusal leaves the chain [C28]
abbrev pub LinksAsWhole : Type 0
LinksAsWhole =
    (img : List ℕ) (s : Session) (whole buf : List ℕ) (f : Frame) (ls : List Link) (last : List ℕ)
    → CutInto whole f ls last
    → let b = after_links (record { image = img; session = s; chain = NoChain }) ls in
    (step b.image b.session b.chain last buf ≡ step img s NoChain whole buf)
    × (2050 ≤ length buf → chain_after b.image b.session b.chain last (length buf) ≡ NoChain)

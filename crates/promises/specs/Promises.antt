-- The promises. Each is a type; the theorem of the same name, in ../proofs/Promises.antt, is its proof.
use Rattle.std.specs.Prelude.{ℕ, ◌+◌, ◌-◌, ◌*◌, ◌/◌, ◌%◌, ◌≤◌, ◌<◌, ◌≡◌, true, false, ◌⊎◌, length, take, drop, get_or, replicate, leb, Some, Ok, Err}
use mathlib.Core.List.{List, [], ◌∷◌, ◌++◌, Memᴰ}
use Rattle.base.specs.Choice.{if_else, all_of}
use Rattle.base.specs.Bytes.{part, AllBytes}
use Rattle.store_records.specs.Body.{nth}
use Rattle.store_kinds.specs.Biometrics.{state, written, written_bytes}
use Rattle.store_kinds.specs.Rules.{is_biometrics}
use Rattle.store_image.specs.Image.{has, well_formed, body, records_of}
use Rattle.store_kinds.specs.declared.rules.Rule.{Rule}
use Rattle.store_files.specs.declared.File.TheVariants.{RecordFile}
use Rattle.objects_templates.specs.Search.{SearchFields, search_data, SearchSized}
use Rattle.machine_session.specs.Verdict.{verdict_number}
use Rattle.machine_session.specs.Session.{opened, session_fits}
use Rattle.machine_session.specs.declared.Place.TheVariants.{OnRecord}
use Rattle.machine_session.specs.declared.Session.{Session}
use Rattle.machine_session.specs.declared.Access.TheVariants.{Read}
use Rattle.machine_apdu.specs.declared.Frame.{Frame}
use Rattle.machine_apdu.specs.declared.Header.{Header}
use Rattle.machine_action.specs.Tests.{all_le}
use Rattle.machine_dispatch.specs.Decide.{data_of}
use Rattle.machine_reply_record.specs.Joined.{records_data}
use Rattle.machine_reply_search.specs.Found.{found_data}
use Rattle.machine_answer.specs.Outcome.{Outcome}
use Rattle.machine_chain.specs.Chain.{Chain, NoChain, so_far}
use Rattle.machine_link.specs.Link.{chain_fits}
use Rattle.machine.specs.Step.{verdict_on, step, chain_after, opening}
use Rattle.machine_answer.specs.declared.Answer.{Answer}
use Rattle.machine_session_bytes.specs.Layout.{session_in}
use Rattle.malquindo.specs.Face.{open_session, is_session_c, chain_of_c, called}
use Rattle.store_move.specs.Moving.{move_card, move_card_into, Numbered}
use Rattle.store_move.specs.declared.MoveRefusal.{MoveRefusal}
use Rattle.store_move_laws.specs.Same.{heads, FreeZero}
use Rattle.promises.specs.Words.{words}
use Rattle.promises.specs.Files.{is_meant_by_p2, is_meant_by_search, Permitted}
use Rattle.promises.specs.Calls.{Call, after, is_pair, whole_of, history}
use Rattle.promises.specs.Matches.{Matches}

-- ---- 1. "When your chip says no, what has it changed?"

-- what every outcome of a command leaves of the image, the session with its chain, and the buffer that came in; `left` is the chain afterwards [C4]
pub record Kept (img : List ℕ) (s : Session) (ch : Chain) (buf : List ℕ) (o : Outcome) (left : Chain) : Type 0 where
  -- without 9000 image and session are as they came, but for a chain, which is dropped
  pub image_kept : (o.answer.status ≡ 0x9000 → ⊥) → o.image ≡ img
  pub session_kept : (o.answer.status ≡ 0x9000 → ⊥) → o.answer.session ≡ s
  pub chain_dropped : verdict_number o.answer.verdict ≡ 0 → (o.answer.status ≡ 0x9000 → ⊥) → left ≡ NoChain
  -- a session without a chain stays exactly
  pub chain_kept : ch ≡ NoChain → (o.answer.status ≡ 0x9000 → ⊥) → left ≡ NoChain
  -- the response buffer changes only where the answer stands
  pub rest_kept : drop o.answer.length o.buffer ≡ drop o.answer.length buf
  pub size_kept : length o.buffer ≡ length buf
  -- a command is refused with 1, 2 or 4, or not at all
  pub number : Memᴰ (verdict_number o.answer.verdict) (0 ∷ 1 ∷ 2 ∷ 4 ∷ [])
  -- a refused command changes nothing
  pub refused : 1 ≤ verdict_number o.answer.verdict
      → (o.answer.length ≡ 0) × (o.answer.status ≡ 0) × (o.answer.session ≡ s) × (left ≡ ch) × (o.image ≡ img) × (o.buffer ≡ buf)

-- [C4]
abbrev pub SaysNo : Type 0
SaysNo = (img : List ℕ) (s : Session) (ch : Chain) (cmd buf : List ℕ) → Kept img s ch buf (step img s ch cmd buf) (chain_after img s ch cmd (length buf))

-- what a command gets that is not refused [C5]
pub record Answered (o : Outcome) : Type 0 where
  -- one of the status words
  pub known : Memᴰ o.answer.status words
  -- SW1 SW2 stand behind the data, the length counts both, and there are 2 to 2,050 bytes
  pub word_counted : 2 ≤ o.answer.length
  pub data_bounded : o.answer.length ≤ 2050
  pub word_last : part o.buffer (o.answer.length - 2) 2 ≡ o.answer.status / 256 ∷ o.answer.status % 256 ∷ []

-- every accepted command gets a status word, whatever bytes it and its chain have [C5]
abbrev pub GetsWord : Type 0
GetsWord = (img : List ℕ) (s : Session) (ch : Chain) (cmd buf : List ℕ) → AllBytes (so_far ch) → AllBytes cmd → verdict_number (step img s ch cmd buf).answer.verdict ≡ 0 → Answered (step img s ch cmd buf)

-- an opening has length 0 and status 0. It takes 60 bytes and answers the session that they open; with any other number of bytes it is
-- refused with number 3 and answers the session that 60 zero bytes open [C6]
pub record Opened (rights : List ℕ) (a : Answer) : Type 0 where
  pub nothing : (a.length ≡ 0) × (a.status ≡ 0)
  -- an opening is refused with 3, or not at all
  pub number : Memᴰ (verdict_number a.verdict) (0 ∷ 3 ∷ [])
  pub taken : length rights ≡ 60 → (verdict_number a.verdict ≡ 0) × (a.session ≡ opened rights)
  pub refused : (length rights ≡ 60 → ⊥) → (verdict_number a.verdict ≡ 3) × (a.session ≡ opened (replicate 60 0))

-- [C6]
abbrev pub Opens : Type 0
Opens = (rights : List ℕ) → Opened rights (opening rights)

-- ---- 2. "Can you show that record 7 is still the record 7 that was written, after any commands at all?"

-- over any calls the image stays well formed, no file is lost, and the records of each file are its history. k is any kind but a
-- biometrics file's, which has no records; the six record files are such kinds [C8]
pub record Held (img : List ℕ) (calls : List Call) : Type 0 where
  pub well : well_formed (after img calls) ≡ true
  pub files : (k : ℕ) → has img k ≡ true → has (after img calls) k ≡ true
  pub records : (k : ℕ) → is_biometrics k ≡ false → records_of (after img calls) k ≡ history k img calls

-- [C8]
abbrev pub Holds : Type 0
Holds = (img : List ℕ) (calls : List Call) → well_formed img ≡ true → Held img calls

-- so a record that is there once is there under its number for ever [C8]
abbrev pub NumberKept : Type 0
NumberKept =
    (img : List ℕ) (calls later : List Call) (k n : ℕ)
    → well_formed img ≡ true
    → is_biometrics k ≡ false
    → n ≤ length (records_of (after img calls) k)
    → nth (records_of (after img (calls ++ later)) k) n ≡ nth (records_of (after img calls) k) n

-- the data of an answer stands before its status word [U8]
abbrev pub data_in : Outcome → List ℕ
data_in o = take (o.answer.length - 2) o.buffer

-- READ RECORD of a file with the records rs: the number asked for is one of them, and the answer is that record, or the records from
-- there to the last, joined and cut after 2,048 bytes [C9]
pub record Reads (s : Session) (f : Frame) (rs : ℕ → List (List ℕ)) (o : Outcome) : Type 0 where
  pub rule : Rule
  pub number : ℕ
  -- the file that P2 means, with the right to read it
  pub meant : is_meant_by_p2 s (f.header.p2 / 8) (RecordFile rule) ≡ true
  pub permitted : Permitted s Read rule
  -- the number is P1, or where P1 is 00 the current record's
  pub by_number : (f.header.p1 ≡ 0 → ⊥) → number ≡ f.header.p1
  pub by_current : f.header.p1 ≡ 0 → s.place ≡ OnRecord rule.id number
  pub low : 1 ≤ number
  pub high : number ≤ length (rs rule.kind)
  pub one : f.header.p2 % 8 ≡ 4 → data_in o ≡ nth (rs rule.kind) number
  pub onward : (f.header.p2 % 8 ≡ 4 → ⊥) → data_in o ≡ records_data (rs rule.kind) number (length (rs rule.kind))

-- READ RECORD that answers 9000, after any calls [C9]
abbrev pub ReadsHistory : Type 0
ReadsHistory =
    (img : List ℕ) (calls : List Call) (s : Session) (ch : Chain) (cmd buf : List ℕ) (f : Frame)
    → well_formed img ≡ true
    → whole_of ch cmd ≡ Some f
    → is_pair f 0x00 0xB2 ≡ true
    → (step (after img calls) s ch cmd buf).answer.status ≡ 0x9000
    → Reads s f (λ k. history k img calls) (step (after img calls) s ch cmd buf)

-- ---- 3. "that a search leaves none out?"

-- [C10]
abbrev pub search_header : Header
search_header = record { cla = 0x00; ins = 0xA2; p1 = 0x00; p2 = 0xF8 }

-- the bytes cmd, behind the chain ch, are a SEARCH RECORD with the frame f, and its data is the writing of the fields x [C10]
pub record SearchCommand (ch : Chain) (cmd : List ℕ) (f : Frame) (x : SearchFields) : Type 0 where
  pub shape : whole_of ch cmd ≡ Some f
  pub header : f.header ≡ search_header
  pub le : all_le f ≡ true
  pub writes : data_of ch cmd ≡ search_data x
  pub sized : SearchSized x

-- a search that is well formed and permitted: its file reference means a record file that the session may read [C11]
pub record Searching (s : Session) (ch : Chain) (cmd : List ℕ) (f : Frame) (x : SearchFields) (r : Rule) : Type 0 where
  pub command : SearchCommand ch cmd f x
  pub meant : is_meant_by_search s x.file (RecordFile r) ≡ true
  pub permitted : Permitted s Read r

-- each number is above the one before it, and so stands once [C11]
abbrev pub Ascending : ℕ → List ℕ → Type 0
Ascending b [] = Unit {0}
Ascending b (x ∷ l) = (b < x) × Ascending x l

-- what the outcome of a search for the fields x names, where the file has the records rs and the reply may have ne bytes [C11]
pub record Names (rs : List (List ℕ)) (x : SearchFields) (ne : ℕ) (o : Outcome) : Type 0 where
  pub numbers : List ℕ
  -- the records that match and no other, each once, ascending
  pub ascending : Ascending 0 numbers
  pub listed_sound : (n : ℕ) → Memᴰ n numbers → Matches rs x n
  pub listed_complete : x.mode ≡ 0x00 → (n : ℕ) → Matches rs x n → Memᴰ n numbers
  -- only the first, where only the first is asked for
  pub first : x.mode ≡ 0x30 → (n : ℕ) → Matches rs x n → (length numbers ≡ 1) × (get_or numbers 0 0 ≤ n)
  -- the reply, where it fits
  pub reply : (n : ℕ) → Matches rs x n → length (found_data x.file numbers) ≤ ne
      → (o.answer.status ≡ 0x9000) × (data_in o ≡ found_data x.file numbers)
  -- 6282 exactly where none matches, with no data
  pub none_complete : ((n : ℕ) → Matches rs x n → ⊥) → (o.answer.status ≡ 0x6282) × (o.answer.length ≡ 2)
  pub none_sound : o.answer.status ≡ 0x6282 → (n : ℕ) → Matches rs x n → ⊥

-- a search after any calls, which is not refused [C11]
abbrev pub LeavesNoneOut : Type 0
LeavesNoneOut =
    (img : List ℕ) (calls : List Call) (s : Session) (ch : Chain) (cmd buf : List ℕ) (f : Frame) (x : SearchFields) (r : Rule)
    → well_formed img ≡ true
    → verdict_number (step (after img calls) s ch cmd buf).answer.verdict ≡ 0
    → Searching s ch cmd f x r
    → Names (history r.kind img calls) x f.ne (step (after img calls) s ch cmd buf)

-- only such a command is answered as a search: one with CLA 00 and INS A2 that gets 9000 or 6282 is one, and goes on with the chain [C12]
abbrev pub OnlySearches : Type 0
OnlySearches =
    (img : List ℕ) (s : Session) (ch : Chain) (cmd buf : List ℕ) (f : Frame)
    → AllBytes (so_far ch)
    → AllBytes cmd
    → whole_of ch cmd ≡ Some f
    → is_pair f 0x00 0xA2 ≡ true
    → ((step img s ch cmd buf).answer.status ≡ 0x9000) ⊎ ((step img s ch cmd buf).answer.status ≡ 0x6282)
    → (x : SearchFields) × (r : Rule) × Searching s ch cmd f x r

-- a command with that header whose data is no such writing gets 6700 where Lc or Le is not as stated, of step 5, and else 6A80, of step 6 [C12]
abbrev pub SearchRefused : Type 0
SearchRefused =
    (img : List ℕ) (s : Session) (ch : Chain) (cmd buf : List ℕ) (f : Frame)
    → AllBytes (so_far ch)
    → AllBytes cmd
    → verdict_number (step img s ch cmd buf).answer.verdict ≡ 0
    → whole_of ch cmd ≡ Some f
    → f.header ≡ search_header
    → ((x : SearchFields) → data_of ch cmd ≡ search_data x → SearchSized x → ⊥)
    → (step img s ch cmd buf).answer.status ≡ if_else (all_of (leb 1 f.lc ∷ all_le f ∷ [])) 0x6A80 0x6700

-- the fields x with the file reference v [C22]
abbrev pub with_file : SearchFields → List ℕ → SearchFields
with_file x v = record { file = v; mode = x.mode; offset = x.offset; number = x.number; text = x.text }

-- outcomes o and p are the same but for the byte that the reply repeats: y in the one, z in the other [C22]
pub record Alike (y z : ℕ) (o p : Outcome) : Type 0 where
  -- verdict, length, status word and session
  pub answer : p.answer ≡ o.answer
  pub image : p.image ≡ o.image
  -- on 9000 the data has `51` with that byte, and the same bytes around it
  pub repeats : o.answer.status ≡ 0x9000
      → (before rest : List ℕ) × (data_in o ≡ before ++ (0x51 ∷ 0x01 ∷ y ∷ rest)) × (data_in p ≡ before ++ (0x51 ∷ 0x01 ∷ z ∷ rest))
  -- behind the data the buffers are the same
  pub behind : drop (o.answer.length - 2) p.buffer ≡ drop (o.answer.length - 2) o.buffer
  -- without 9000 no byte differs
  pub silent : (o.answer.status ≡ 0x9000 → ⊥) → p.buffer ≡ o.buffer

-- a search by the byte y, and the same search with y in b8 to b4 of its byte, have outcomes alike, whether a file has the short id y or not.
-- The low bits of y are not 000: no short id of a file has these [C22]
abbrev pub BothSpellings : Type 0
BothSpellings =
    (img : List ℕ) (s : Session) (ch : Chain) (cmd other buf : List ℕ) (f : Frame) (x : SearchFields) (y : ℕ)
    → (y % 8 ≡ 0 → ⊥)
    → SearchCommand ch cmd f (with_file x (y ∷ []))
    → SearchCommand ch other f (with_file x (8 * y ∷ []))
    → Alike y (8 * y) (step img s ch cmd buf) (step img s ch other buf)

-- ---- 4. No session is shut out: of the four refusals only the one for a short buffer can meet a session that the machine gave

-- a session that fits the image is taken after any calls, its own and others' [C14]
abbrev pub StaysAccepted : Type 0
StaysAccepted =
    (img : List ℕ) (calls : List Call) (s : Session) (ch : Chain) (n : ℕ)
    → well_formed img ≡ true
    → session_fits img s ≡ true
    → chain_fits ch ≡ true
    → 2050 ≤ n
    → verdict_number (verdict_on (after img calls) s ch n) ≡ 0

-- the session that a command answers fits the image that it leaves, and the chain that it leaves is one that links can have left [C14]
abbrev pub AnswerFits : Type 0
AnswerFits =
    (img : List ℕ) (s : Session) (ch : Chain) (cmd buf : List ℕ)
    → well_formed img ≡ true
    → session_fits img s ≡ true
    → chain_fits ch ≡ true
    → (session_fits (step img s ch cmd buf).image (step img s ch cmd buf).answer.session ≡ true) × (chain_fits (chain_after img s ch cmd (length buf)) ≡ true)

-- the session that an opening answers fits any image [C14]
abbrev pub OpeningFits : Type 0
OpeningFits = (img rights : List ℕ) → session_fits img (opening rights).session ≡ true

-- ---- 5. What a program in another language gets is all of it

-- the bytes that `malquindo_command` leaves in the session's buffer are the session that the machine answers, with its chain [X7]
pub record BytesLeft (img ses cmd buf new : List ℕ) : Type 0 where
  pub still : is_session_c new ≡ true
  pub session : session_in new ≡ (step img (session_in ses) (chain_of_c ses) cmd buf).answer.session
  pub chain : chain_of_c new ≡ chain_after img (session_in ses) (chain_of_c ses) cmd (length buf)

-- [X7]
abbrev pub SessionBytes : Type 0
SessionBytes =
    (img ses cmd buf : List ℕ)
    → AllBytes ses
    → AllBytes cmd
    → is_session_c ses ≡ true
    → BytesLeft img ses cmd buf (called img ses cmd buf).session

-- so are those that `malquindo_open` leaves in a buffer that takes a session; it has no chain [X7]
abbrev pub OpeningBytes : Type 0
OpeningBytes =
    (rights ses : List ℕ)
    → 1054 ≤ length ses
    → (is_session_c (open_session rights ses) ≡ true) × (session_in (open_session rights ses) ≡ (opening rights).session) × (chain_of_c (open_session rights ses) ≡ NoChain)

-- its result has the verdict's number, the length and the status, and length and status have room in their 16 bits [X3]
pub record Whole (result : ℕ) (a : Answer) : Type 0 where
  pub length_small : a.length < 65536
  pub status_small : a.status < 65536
  pub sum : result ≡ verdict_number a.verdict * 4294967296 + a.length * 65536 + a.status

-- [X3]
abbrev pub ResultWhole : Type 0
ResultWhole =
    (img ses cmd buf : List ℕ)
    → AllBytes ses
    → AllBytes cmd
    → is_session_c ses ≡ true
    → Whole (called img ses cmd buf).result (step img (session_in ses) (chain_of_c ses) cmd buf).answer

-- ---- 6. A card moves to a larger chip

-- a move that is refused leaves the target as it was [M10]
abbrev pub MoveSaysNo : Type 0
MoveSaysNo = (old list t : List ℕ) (w : MoveRefusal) → move_card old list (length t) ≡ Err w → move_card_into old list t ≡ t

-- a move into the target t that answers the length n of the new image [M4] [M10] [M11]
pub record MovedCard (old list t : List ℕ) (n : ℕ) (new : List ℕ) : Type 0 where
  -- the target is the new image and, where it is longer, keeps its tail
  pub whole : move_card_into old list t ≡ new ++ drop n t
  pub size : length new ≡ n
  pub well : well_formed new ≡ true
  -- its sections have the kinds and lengths of the list
  pub rooms : heads new ≡ list
  -- every file is there, and every record under its number
  pub files : (k : ℕ) → has old k ≡ true → has new k ≡ true
  pub records : (k : ℕ) → is_biometrics k ≡ false → records_of new k ≡ records_of old k
  -- a biometrics file keeps its state and its bytes
  pub biometrics : (k : ℕ) → is_biometrics k ≡ true → has old k ≡ true
      → (state (body new k) ≡ state (body old k)) × (written (body new k) ≡ written (body old k)) × (written_bytes (body new k) ≡ written_bytes (body old k))
  -- free bytes are zero
  pub free : FreeZero new
  -- a file that was not there is empty, a biometrics file Deactivated
  pub none : (k : ℕ) → is_biometrics k ≡ false → has old k ≡ false → records_of new k ≡ []
  pub deactivated : (k : ℕ) → is_biometrics k ≡ true → has old k ≡ false → (state (body new k) ≡ 0) × (written (body new k) ≡ 0) × (written_bytes (body new k) ≡ [])

-- [M11]
abbrev pub MoveDone : Type 0
MoveDone = (old list t : List ℕ) (n : ℕ) → move_card old list (length t) ≡ Ok n → MovedCard old list t n (take n (move_card_into old list t))

-- a move to the same sizes copies an image whose free bytes are zero, and only a short target refuses it [M12]
abbrev pub SameSizes : Type 0
SameSizes =
    (old t : List ℕ)
    → well_formed old ≡ true
    → FreeZero old
    → length old ≤ length t
    → (move_card old (heads old) (length t) ≡ Ok (length old)) × (move_card_into old (heads old) t ≡ old ++ drop (length old) t)

-- a move of what was moved is one move to the last list, byte for byte [M13]
abbrev pub MoveTwice : Type 0
MoveTwice =
    (old first last t u : List ℕ) (n m : ℕ)
    → move_card old first (length t) ≡ Ok n
    → move_card (take n (move_card_into old first t)) last (length u) ≡ Ok m
    → (move_card old last (length u) ≡ Ok m) × (move_card_into old last u ≡ move_card_into (take n (move_card_into old first t)) last u)

-- the new image's length has room in the 32 bits of the result of `malquindo_move` [X6]
abbrev pub MoveWhole : Type 0
MoveWhole = (old list : List ℕ) (n : ℕ) → Numbered (move_card old list n)

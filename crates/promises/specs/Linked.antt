-- Calls from C: what a program sees that links the functions of include/malquindo.h, and the promises of that. A session is bytes, any
-- bytes at each call, and a result is one number. Each promise is a type; the theorem of the same name is in ../proofs/Promises.antt.
-- Read before: Calls.antt, Promises.antt.
use Rattle.std.specs.Prelude.{ℕ, ◌*◌, ◌/◌, ◌%◌, ◌≤◌, ◌<◌, ◌≡◌, true, false, length, take, drop, eqb, Some, Result, Ok, Err}
use mathlib.Core.List.{List, [], ◌∷◌, ◌++◌, Memᴰ}
use Rattle.base.specs.Choice.{if_else}
use Rattle.store_records.specs.Body.{nth}
use Rattle.store_kinds.specs.Rules.{is_biometrics}
use Rattle.store_kinds.specs.declared.rules.Rule.{Rule}
use Rattle.store_image.specs.Image.{has, well_formed, records_of}
use Rattle.base.specs.Bytes.{AllBytes}
use Rattle.objects_templates.specs.Search.{SearchFields}
use Rattle.machine_session.specs.Session.{opened}
use Rattle.machine_session.specs.declared.Refusal.TheVariants.{ShortBuffer, BadImage, BadRights, BadSession}
use Rattle.machine_apdu.specs.Shape.{shape_of}
use Rattle.machine_chain.specs.Chain.{NoChain}
use Rattle.machine_apdu.specs.declared.Frame.{Frame}
use Rattle.machine_answer.specs.Outcome.{Outcome, outcome}
use Rattle.machine.specs.Step.{step}
use Rattle.machine_session_bytes.specs.Layout.{session_in}
use Rattle.malquindo.specs.Face.{open_result, open_session, is_session_c, chain_of_c, Called, called, called_cut, move_result}
use Rattle.store_move.specs.Moving.{move_card, move_card_into}
use Rattle.promises.specs.Calls.{is_pair, whole_of, added_by, added_by_cut}
use Rattle.promises.specs.Promises.{Kept, Answered, Reads, Searching, Names, MovedCard}
use Rattle.machine_session.specs.declared.Refusal.{Refusal}

-- ---- results: `malquindo_refusal`, `malquindo_length`, `malquindo_status`, `malquindo_moved`, `malquindo_stores`

-- [X3]
unfoldable pub refusal_in : ℕ → ℕ
refusal_in r = r / 4294967296

-- [X3]
unfoldable pub length_in : ℕ → ℕ
length_in r = r / 65536 % 65536

-- [X3]
unfoldable pub status_in : ℕ → ℕ
status_in r = r % 65536

-- [X6]
unfoldable pub moved_in : ℕ → ℕ
moved_in r = r % 4294967296

-- how many stores the result of `malquindo_cut` tells; 0 on a refusal [X16]
unfoldable pub cut_stores_in : ℕ → ℕ
cut_stores_in r = r % 4294967296

-- the verdict of a number [X7]
unfoldable pub verdict_by : ℕ → Result (Unit {0}) Refusal
verdict_by n =
    if_else (eqb n 0) (Ok tt)
    (if_else (eqb n 1) (Err ShortBuffer) (if_else (eqb n 2) (Err BadImage) (if_else (eqb n 3) (Err BadRights) (Err BadSession))))

-- all that a caller of `malquindo_command` has afterwards: the three numbers of the result, and the bytes that it lent [X7]
unfoldable pub seen : Called → Outcome
seen c =
    outcome
    (record {
      verdict = verdict_by (refusal_in c.result);
      length = length_in c.result;
      status = status_in c.result;
      session = session_in c.session;
    })
    c.image
    c.response

-- ---- calls

-- an opening with any rights and any session buffer; a command with any session bytes, any command and any response buffer; a move by a
-- list of rooms into any target; a cut with any session bytes, any command and any number of stores [X8]
pub data CCall : Type 0 where
  OpenC : List ℕ → List ℕ → CCall
  CommandC : List ℕ → List ℕ → List ℕ → CCall
  MoveC : List ℕ → List ℕ → CCall
  CutC : List ℕ → List ℕ → ℕ → CCall

-- after a move with the result r: the card goes on as the new image, the first bytes of the target t, unless the move was refused [X8]
unfoldable pub image_after_move_c : ℕ → List ℕ → List ℕ → List ℕ
image_after_move_c r t img = if_else (eqb (refusal_in r) 0) (take (moved_in r) t) img

-- the image after a call [X8]
unfoldable pub after_call_c : List ℕ → CCall → List ℕ
after_call_c img (OpenC rights ses) = img
after_call_c img (CommandC ses cmd buf) = (called img ses cmd buf).image
after_call_c img (MoveC list t) = image_after_move_c (move_result (move_card img list (length t))) (move_card_into img list t) img
after_call_c img (CutC ses cmd n) = (called_cut img ses cmd n).image

-- and after calls, one after the other [X8]
unfoldable pub after_c : List ℕ → List CCall → List ℕ
after_c img [] = img
after_c img (c ∷ cs) = after_c (after_call_c img c) cs

-- what a call adds to the records of a file, as its result tells it [X8]
unfoldable pub added_c : ℕ → List ℕ → CCall → List (List ℕ)
added_c k img (OpenC rights ses) = []
added_c k img (CommandC ses cmd buf) = added_by k (session_in ses) (chain_of_c ses) cmd (status_in (called img ses cmd buf).result) (shape_of cmd)
added_c k img (MoveC list t) = []
added_c k img (CutC ses cmd n) = added_by_cut k (session_in ses) (chain_of_c ses) cmd (cut_stores_in (called_cut img ses cmd n).result) n

-- [X8]
unfoldable pub additions_c : ℕ → List ℕ → List CCall → List (List ℕ)
additions_c k img [] = []
additions_c k img (c ∷ cs) = added_c k img c ++ additions_c k (after_call_c img c) cs

-- [X8]
unfoldable pub history_c : ℕ → List ℕ → List CCall → List (List ℕ)
history_c k img cs = records_of img k ++ additions_c k img cs

-- ---- nothing is lost between the machine and its caller: a command is `step`, in the session that the bytes are

-- [X7]
abbrev pub CSees : Type 0
CSees =
    (img ses cmd buf : List ℕ)
    → AllBytes ses
    → AllBytes cmd
    → is_session_c ses ≡ true
    → seen (called img ses cmd buf) ≡ step img (session_in ses) (chain_of_c ses) cmd buf

-- bytes that are no session get a refusal, and nothing is touched [X2]
pub record MalformedC (img ses buf : List ℕ) (c : Called) : Type 0 where
  pub number : Memᴰ (refusal_in c.result) (1 ∷ 2 ∷ 4 ∷ [])
  pub nothing : (length_in c.result ≡ 0) × (status_in c.result ≡ 0)
  pub kept : (c.image ≡ img) × (c.session ≡ ses) × (c.response ≡ buf)

-- [X2]
abbrev pub CMalformed : Type 0
CMalformed = (img ses cmd buf : List ℕ) → is_session_c ses ≡ false → MalformedC img ses buf (called img ses cmd buf)

-- ---- 1. "When your chip says no, what has it changed?"

-- of the session that is lent, the bytes themselves stay, but for those of a chain that is dropped [X5] [X8]
pub record KeptC (img ses buf : List ℕ) (c : Called) : Type 0 where
  pub kept : Kept img (session_in ses) (chain_of_c ses) buf (seen c) (chain_of_c c.session)
  pub session_kept : (status_in c.result ≡ 0x9000 → ⊥) → take 25 c.session ≡ take 25 ses
  -- a refusal leaves every byte, and so does every status but 9000 where there is no chain
  pub refused_kept : 1 ≤ refusal_in c.result → c.session ≡ ses
  pub no_chain_kept : chain_of_c ses ≡ NoChain → (status_in c.result ≡ 0x9000 → ⊥) → c.session ≡ ses
  -- a session has 1,054 bytes; those behind them stay
  pub session_rest_kept : drop 1054 c.session ≡ drop 1054 ses
  pub session_size_kept : length c.session ≡ length ses

-- [X8] [C4]
abbrev pub CSaysNo : Type 0
CSaysNo = (img ses cmd buf : List ℕ) → AllBytes ses → AllBytes cmd → KeptC img ses buf (called img ses cmd buf)

-- [X8] [C5]
abbrev pub CGetsWord : Type 0
CGetsWord = (img ses cmd buf : List ℕ) → AllBytes ses → AllBytes cmd → refusal_in (called img ses cmd buf).result ≡ 0 → Answered (seen (called img ses cmd buf))

-- ---- 2. "Can you show that record 7 is still the record 7 that was written, after any commands at all?"

-- [X8]
pub record HeldC (img : List ℕ) (calls : List CCall) : Type 0 where
  pub well : well_formed (after_c img calls) ≡ true
  pub files : (k : ℕ) → has img k ≡ true → has (after_c img calls) k ≡ true
  pub records : (k : ℕ) → is_biometrics k ≡ false → records_of (after_c img calls) k ≡ history_c k img calls

-- [X8] [C8]
abbrev pub CHolds : Type 0
CHolds = (img : List ℕ) (calls : List CCall) → well_formed img ≡ true → HeldC img calls

-- [X8] [C8]
abbrev pub CNumberKept : Type 0
CNumberKept =
    (img : List ℕ) (calls later : List CCall) (k n : ℕ)
    → well_formed img ≡ true
    → is_biometrics k ≡ false
    → n ≤ length (records_of (after_c img calls) k)
    → nth (records_of (after_c img (calls ++ later)) k) n ≡ nth (records_of (after_c img calls) k) n

-- [X8] [C9]
abbrev pub CReadsHistory : Type 0
CReadsHistory =
    (img : List ℕ) (calls : List CCall) (ses cmd buf : List ℕ) (f : Frame)
    → well_formed img ≡ true
    → AllBytes ses
    → AllBytes cmd
    → whole_of (chain_of_c ses) cmd ≡ Some f
    → is_pair f 0x00 0xB2 ≡ true
    → status_in (called (after_c img calls) ses cmd buf).result ≡ 0x9000
    → Reads (session_in ses) f (λ k. history_c k img calls) (seen (called (after_c img calls) ses cmd buf))

-- ---- 3. "that a search leaves none out?"

-- [X8] [C11]
abbrev pub CLeavesNoneOut : Type 0
CLeavesNoneOut =
    (img : List ℕ) (calls : List CCall) (ses cmd buf : List ℕ) (f : Frame) (x : SearchFields) (r : Rule)
    → well_formed img ≡ true
    → AllBytes ses
    → AllBytes cmd
    → refusal_in (called (after_c img calls) ses cmd buf).result ≡ 0
    → Searching (session_in ses) (chain_of_c ses) cmd f x r
    → Names (history_c r.kind img calls) x f.ne (seen (called (after_c img calls) ses cmd buf))

-- ---- an opening: a session buffer under 1,054 bytes gets 4, after 3 is tested, and nothing is written there

-- [X4]
pub record OpenedC (rights ses : List ℕ) : Type 0 where
  pub taken : length rights ≡ 60 → 1054 ≤ length ses
      → (open_result rights ses ≡ 0) × (is_session_c (open_session rights ses) ≡ true) × (session_in (open_session rights ses) ≡ opened rights) × (chain_of_c (open_session rights ses) ≡ NoChain)
  pub refused : (length rights ≡ 60 → ⊥) → open_result rights ses ≡ 3 * 4294967296
  pub short : length rights ≡ 60 → length ses < 1054 → open_result rights ses ≡ 4 * 4294967296
  pub unwritten : length ses < 1054 → open_session rights ses ≡ ses

-- [X4] [C6]
abbrev pub COpens : Type 0
COpens = (rights ses : List ℕ) → OpenedC rights ses

-- ---- a move

-- [X6]
pub record MovedC (old list t : List ℕ) (r : ℕ) : Type 0 where
  -- the refusals in their order; number 0 means none
  pub number : Memᴰ (refusal_in r) (0 ∷ 2 ∷ 10 ∷ 11 ∷ 12 ∷ 13 ∷ [])
  -- a refused move leaves the target as it was
  pub refused : 1 ≤ refusal_in r → (moved_in r ≡ 0) × (move_card_into old list t ≡ t)
  pub image : refusal_in r ≡ 0 → MovedCard old list t (moved_in r) (take (moved_in r) (move_card_into old list t))

-- [X6] [X8]
abbrev pub CMoves : Type 0
CMoves = (old list t : List ℕ) → MovedC old list t (move_result (move_card old list (length t)))

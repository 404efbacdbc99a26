-- An index of the records of a file, as a program in C keeps it beside the file's body: what the results of `malquindo_index_build`,
-- `malquindo_index_extend` and `malquindo_index_read` tell, and that an index stays right over any calls. Each promise is a type; the theorem of
-- the same name is in ../proofs/Promises.antt. Read before: Linked.antt, Bodies.antt.
use Rattle.std.specs.Prelude.{ℕ, ◌+◌, ◌-◌, ◌*◌, ◌/◌, ◌%◌, ◌≤◌, ◌<◌, ◌≡◌, true, false, length, get_or, take, drop, eqb, Some}
use mathlib.Core.List.{List, [], ◌∷◌, Memᴰ}
use Rattle.std.specs.Borrow.{Bor}
use Rattle.base.specs.Choice.{if_else}
use Rattle.base.specs.Bytes.{part, AllBytes}
use Rattle.store_records.specs.Little.{le16}
use Rattle.store_records.specs.Body.{place, records, nth, body_ok}
use Rattle.store_kinds.specs.Rules.{rules, is_biometrics}
use Rattle.store_kinds.specs.declared.rules.Rule.{Rule}
use Rattle.store_image.specs.Image.{has, well_formed}
use Rattle.store_index.specs.Index.{build, build_into, extend, extend_into, measure, IndexedPart}
use Rattle.machine_session.specs.Session.{place_record}
use Rattle.machine_session.specs.declared.Session.{Session}
use Rattle.machine_apdu.specs.declared.Frame.{Frame}
use Rattle.machine_answer.specs.Outcome.{Outcome}
use Rattle.machine_session_bytes.specs.Layout.{session_in}
use Rattle.malquindo.specs.Face.{chain_of_c, called, index_result}
use Rattle.promises.specs.Files.{is_meant_kind}
use Rattle.promises.specs.Calls.{is_pair, whole_of}
use Rattle.promises.specs.Promises.{data_in}
use Rattle.promises.specs.Linked.{refusal_in, status_in, seen, CCall, after_call_c, after_c, added_c, history_c}
use Rattle.promises.specs.Bodies.{lent_body, IsNumber}

-- the lower half of a result: `malquindo_index_places`, `malquindo_index_length` [X13]
unfoldable pub indexed_in : ℕ → ℕ
indexed_in r = r % 4294967296

-- ---- build

-- xs is a body of the record file of kind k: a row of the rule table has the kind, and the body is well formed by that row [R10]
abbrev pub RecordBody : ℕ → List ℕ → Type 0
RecordBody k xs = (r : Rule) × Memᴰ r rules × (r.kind ≡ k) × (body_ok r.longest r.most xs ≡ true)

-- what building gives for the list ps: the result r, and the list `new` [R10] [X13]
pub record BuildC (k : ℕ) (xs ps : List ℕ) (r : ℕ) (new : List ℕ) : Type 0 where
  -- 6 exactly where the body is not one of a record file of this kind, or the list has fewer entries than the body has records
  pub refused_complete : (RecordBody k xs → length (records xs) ≤ length ps → ⊥) → r ≡ 6 * 4294967296
  pub refused_sound : 1 ≤ refusal_in r → RecordBody k xs → length (records xs) ≤ length ps → ⊥
  pub refused_kept : 1 ≤ refusal_in r → new ≡ ps
  -- a place for each record: where its length stands
  pub number : refusal_in r ≡ 0 → r ≡ length (records xs)
  pub places : refusal_in r ≡ 0 → (n : ℕ) → IsNumber xs n → get_or new (n - 1) 0 ≡ place xs (n - 1)
  -- the entries behind them stay
  pub rest_kept : drop (indexed_in r) new ≡ drop (indexed_in r) ps
  pub size_kept : length new ≡ length ps

-- [X13]
abbrev pub CIndexBuilds : Type 0
CIndexBuilds = (k : ℕ) (xs ps : List ℕ) → BuildC k xs ps (index_result (build k xs ps)) (build_into k xs ps)

-- ---- extend

-- what extending gives for the list ps, which holds n places [R11] [X13]
pub record ExtendC (k : ℕ) (xs ps : List ℕ) (n r : ℕ) (new : List ℕ) : Type 0 where
  -- 6 exactly where the body is not one of a record file of this kind, has not n + 1 records, or the list has not n + 1 entries
  pub refused_complete : (RecordBody k xs → length (records xs) ≡ n + 1 → n < length ps → ⊥) → r ≡ 6 * 4294967296
  pub refused_sound : 1 ≤ refusal_in r → RecordBody k xs → length (records xs) ≡ n + 1 → n < length ps → ⊥
  pub refused_kept : 1 ≤ refusal_in r → new ≡ ps
  -- entry n, counted from 0, is where the length of record n + 1 stands
  pub number : refusal_in r ≡ 0 → r ≡ n + 1
  pub added : refusal_in r ≡ 0 → get_or new n 0 ≡ place xs n
  -- every other entry stays
  pub others_kept : (i : ℕ) → (i ≡ n → ⊥) → get_or new i 0 ≡ get_or ps i 0
  pub size_kept : length new ≡ length ps

-- [X13]
abbrev pub CIndexExtends : Type 0
CIndexExtends = (k : ℕ) (xs ps : List ℕ) (n : ℕ) → ExtendC k xs ps n (index_result (extend k xs ps n)) (extend_into k xs ps n)

-- ---- read

-- the list has an entry for the number n, and the length that stands there and as many bytes are within the body [R12]
pub record Readable (xs ps : List ℕ) (n : ℕ) : Type 0 where
  pub first : 1 ≤ n
  pub last : n ≤ length ps
  pub within : get_or ps (n - 1) 0 + 2 + le16 xs (get_or ps (n - 1) 0) ≤ length xs

-- what reading record n by the list ps tells, of any body and any list [R12] [X13]
pub record ReadC (xs ps : List ℕ) (n r : ℕ) : Type 0 where
  -- 6 exactly where there is no such number or its place leads out of the body
  pub refused_complete : (Readable xs ps n → ⊥) → r ≡ 6 * 4294967296
  pub refused_sound : 1 ≤ refusal_in r → Readable xs ps n → ⊥
  -- else what the two bytes at the place say, and as many bytes stand there
  pub size : refusal_in r ≡ 0 → r ≡ le16 xs (get_or ps (n - 1) 0)
  pub within : refusal_in r ≡ 0 → get_or ps (n - 1) 0 + 2 + r ≤ length xs

-- [X13]
abbrev pub CIndexReads : Type 0
CIndexReads = (xs ps : List ℕ) (n : ℕ) → AllBytes xs → ReadC xs ps n (index_result (measure xs ps n))

-- ---- an index that is kept over calls

-- what a caller keeps: its list, and how many places of it are filled [R15]
pub record CallerIndex : Type 0 where
  pub entries : List ℕ
  pub filled : ℕ

-- built once, in the list ps [R15]
unfoldable pub built_c : ℕ → List ℕ → List ℕ → CallerIndex
built_c k img ps = record { entries = build_into k (lent_body img k) ps; filled = indexed_in (index_result (build k (lent_body img k) ps)) }

-- extended on the image img, where a call has added ds to the file's records; left alone where it has added none [R15]
abbrev pub extended_c : ℕ → List ℕ → List (List ℕ) → CallerIndex → CallerIndex
extended_c k img [] x = x
extended_c k img (d ∷ ds) x =
    record {
      entries = extend_into k (lent_body img k) x.entries x.filled;
      filled = indexed_in (index_result (extend k (lent_body img k) x.entries x.filled));
    }

-- over calls: extended after each APPEND RECORD to the file that counts: answered 9000, or cut behind its last store (`added_c`) [R15]
unfoldable pub index_after_c : ℕ → List ℕ → CallerIndex → List CCall → CallerIndex
index_after_c k img x [] = x
index_after_c k img x (c ∷ cs) = index_after_c k (after_call_c img c) (extended_c k (after_call_c img c) (added_c k img c) x) cs

-- the result of reading record n: the filled places are lent as the list [R12] [R15]
unfoldable pub index_read_result : List ℕ → CallerIndex → ℕ → ℕ
index_read_result xs x n = index_result (measure xs (take x.filled x.entries) n)

-- the bytes that this result tells [X13]
unfoldable pub index_bytes : List ℕ → CallerIndex → ℕ → List ℕ
index_bytes xs x n = part xs (get_or x.entries (n - 1) 0 + 2) (indexed_in (index_read_result xs x n))

-- the index x reads the records rs of the body xs: each number its record, and no other number anything [R15]
pub record ReadsRecords (xs : List ℕ) (rs : List (List ℕ)) (x : CallerIndex) : Type 0 where
  pub filled : x.filled ≡ length rs
  pub bytes : (n : ℕ) → 1 ≤ n → n ≤ length rs → index_bytes xs x n ≡ nth rs n
  pub size : (n : ℕ) → 1 ≤ n → n ≤ length rs → index_read_result xs x n ≡ length (nth rs n)
  pub no_other : (n : ℕ) → (1 ≤ n → n ≤ length rs → ⊥) → index_read_result xs x n ≡ 6 * 4294967296
  -- and the part r that `read` of the store returns, where a body with these bytes is lent, is the record
  pub returned : (n : ℕ) → 1 ≤ n → n ≤ length rs → (body r : Bor (List ℕ)) → body.now ≡ xs
      → IndexedPart (measure xs (take x.filled x.entries) n) (take x.filled x.entries) n body r
      → r.now ≡ nth rs n

-- built once and extended after each append, an index reads, after any calls, the records of the list that demand 3 is about; and it is the one
-- that building would give then. The list must have an entry for each record that the file comes to have [R15]
pub record IndexKept (k : ℕ) (img ps : List ℕ) (calls : List CCall) : Type 0 where
  pub reads : ReadsRecords (lent_body (after_c img calls) k) (history_c k img calls) (index_after_c k img (built_c k img ps) calls)
  pub as_built : index_after_c k img (built_c k img ps) calls ≡ built_c k (after_c img calls) ps

-- [R15]
abbrev pub CIndexKept : Type 0
CIndexKept =
    (k : ℕ) (img ps : List ℕ) (calls : List CCall)
    → well_formed img ≡ true
    → has img k ≡ true
    → is_biometrics k ≡ false
    → length (history_c k img calls) ≤ length ps
    → IndexKept k img ps calls

-- 254 entries are enough for any file, whatever is appended to it [R15]
abbrev pub CIndexRoom : Type 0
CIndexRoom =
    (k : ℕ) (img : List ℕ) (calls : List CCall) → well_formed img ≡ true → has img k ≡ true → is_biometrics k ≡ false → length (history_c k img calls) ≤ 254

-- the number that READ RECORD asks for: P1, or where P1 is 00 that of the current record [J3]
unfoldable pub number_asked : Session → Frame → ℕ
number_asked s f = if_else (eqb f.header.p1 0) (place_record s.place) f.header.p1

-- the index x reads of the body xs what READ RECORD has answered with the outcome o for record n: the same bytes, as many of them [R15]
pub record AsReplied (xs : List ℕ) (x : CallerIndex) (n : ℕ) (o : Outcome) : Type 0 where
  pub bytes : index_bytes xs x n ≡ data_in o
  pub size : index_read_result xs x n ≡ length (data_in o)

-- so what READ RECORD answers for one record of the file is what the index reads [R15]
abbrev pub CIndexReplies : Type 0
CIndexReplies =
    (k : ℕ) (img ps : List ℕ) (calls : List CCall) (ses cmd buf : List ℕ) (f : Frame)
    → well_formed img ≡ true
    → has img k ≡ true
    → length (history_c k img calls) ≤ length ps
    → AllBytes ses
    → AllBytes cmd
    → whole_of (chain_of_c ses) cmd ≡ Some f
    → is_pair f 0x00 0xB2 ≡ true
    → f.header.p2 % 8 ≡ 4
    → is_meant_kind (session_in ses) (f.header.p2 / 8) k ≡ true
    → status_in (called (after_c img calls) ses cmd buf).result ≡ 0x9000
    → AsReplied (lent_body (after_c img calls) k) (index_after_c k img (built_c k img ps) calls) (number_asked (session_in ses) f) (seen (called (after_c img calls) ses cmd buf))

-- The form of nested data objects, and what the reader finds in a part by it.
--
-- What the reader accepts is said in a readable way elsewhere: `search_data` and `SearchSized` (objects_templates/specs/Search.antt) for a
-- search, `update_data` and `UpdateSized`, `reference_data` and `References` for the others, `stamp_data` and `Lawful` for a stamp, `extension_data`
-- and `Sayable` for an extension. The laws
-- `search_sound`, `search_complete` and their likes prove that it accepts exactly that. This file says what a reading answers for every
-- input, where it finds a fault too.
use Rattle.std.specs.Prelude.{ℕ, zero, suc, ◌+◌, ◌-◌, min, List, [], Bool, length, get_or, take, drop, set, replicate, ltb, eqb, Option, None, Some, Ok, Err}
use Rattle.std.specs.Option.{is_none}
use Rattle.base.specs.Choice.{if_else}
use Rattle.objects_reader.specs.Head.{Head, head_of}
use Rattle.objects_reader.specs.declared.head.HeadFault.TheVariants.{NoTag, NoLength}
use Rattle.objects_reader.specs.declared.reader.Fault.{Fault}
use Rattle.objects_reader.specs.declared.reader.Fault.TheVariants.{Tag, Length, Depth}
use Rattle.objects_reader.specs.declared.reader.Reading.{Reading}
use Rattle.objects_reader.specs.declared.reader.Span.{Span}

-- Objects that stand one behind the other, in this order and with nothing else between or behind them: none; a plain one of this tag, with
-- a value of lo to hi bytes, and what follows it; such a one that may be absent (`maybe`: a stamp has some);
-- or one of this tag whose value is objects again, and what follows it. [D3] [D11]
pub data Form : Type 0 where
  done : Form
  plain : (tag lo hi : ℕ) → Form → Form
  maybe : (tag lo hi : ℕ) → Form → Form
  nested : (tag : ℕ) → Form → Form → Form

-- ---- a form as rows of five numbers: tag, rows inside, 0 where a plain value may be absent, fewest and most bytes of a plain value

-- the number in a column of the first row [D11]
abbrev pub col : List (List ℕ) → ℕ → ℕ
col rows k = get_or (get_or rows 0 []) k 0

-- where the rows of what stands inside the first object end [D11]
abbrev pub cut_of : List (List ℕ) → ℕ
cut_of rows = 1 + min (col rows 1) (length rows - 1)

-- the form of at most k rows [D11]
unfoldable pub form_in : ℕ → List (List ℕ) → Form
form_in zero rows = done
form_in (suc k) rows =
    let o = maybe (col rows 0) (col rows 3) (col rows 4) (form_in k (drop 1 rows)) in
    let a = plain (col rows 0) (col rows 3) (col rows 4) (form_in k (drop 1 rows)) in
    let b = nested (col rows 0) (form_in k (take (cut_of rows - 1) (drop 1 rows))) (form_in k (drop (cut_of rows) rows)) in
    if_else (ltb (length rows) 1) done (if_else (eqb (col rows 1) 0) (if_else (eqb (col rows 2) 0) o a) b)

-- the form that rows say [D11]
unfoldable pub form_of : List (List ℕ) → Form
form_of rows = form_in (length rows) rows

-- ---- a reading

-- the number of a fault: another tag or none, a length that does not fit, too deep; 3 is a wrong content, which a stamp can have [D9] [C2]
abbrev pub fault_number : Option Fault → ℕ
fault_number None = 0
fault_number (Some Tag) = 1
fault_number (Some Length) = 2
fault_number (Some Depth) = 4

-- no fault [D9]
abbrev pub is_clean : Option Fault → Bool
is_clean f = is_none f

-- the place of a value that is absent or not yet read [D9]
abbrev pub nowhere : Span
nowhere = record { at = 0; len = 0 }

-- before anything is read [D9]
abbrev pub fresh : Reading
fresh = record { fault = None; at = 0; n = 0; places = replicate 13 nowhere }

-- the reading with a fault at a place [D9]
abbrev pub spoilt : Reading → Fault → ℕ → Reading
spoilt r f at = record { fault = Some f; at = at; n = r.n; places = r.places }

-- `noted r start len` is r with the place (start, len) behind its others. Thirteen are kept, as many as a stamp has fields; a further one is
-- dropped. [D9]
abbrev pub noted : Reading → ℕ → ℕ → Reading
noted r start len =
    if_else (ltb r.n 13)
    (record { fault = r.fault; at = r.at; n = r.n + 1; places = set r.places r.n (record { at = start; len = len }) })
    r

-- by the head of the next object: it stands there, its tag does not, or its length is none [D1] [D2]
abbrev pub on_head : Head → (ℕ → ℕ → Reading) → Reading → Reading → Reading
on_head (Ok (start, len)) go none bad = go start len
on_head (Err NoTag) go none bad = none
on_head (Err NoLength) go none bad = bad

-- by the length of a plain value: lo to hi bytes, or not [D5]
abbrev pub of_size : {A : Type 0} → ℕ → ℕ → ℕ → A → A → A
of_size lo hi len fit bad = if_else (ltb len lo) bad (if_else (ltb hi len) bad fit)

-- a plain value that stands first in s, and what `go` reads behind it; `none` where its tag is missing [D3] [D5]
abbrev pub on_value : (tag lo hi d base : ℕ) → List ℕ → Reading → (ℕ → List ℕ → Reading → Reading) → Reading → Reading
on_value tag lo hi d base s r go none =
    if_else (eqb d 0) (spoilt r Depth base)
    (on_head (head_of tag s)
    (λ start len. of_size lo hi len (go (base + (start + len)) (drop (start + len) s) (noted r (base + start) len)) (spoilt r Length base))
    none (spoilt r Length base))

-- the reading r, after s is read by the form with d of depth remaining; s starts at base in the data [D3] [D4]
unfoldable pub read_form : Form → ℕ → ℕ → List ℕ → Reading → Reading
read_form done d base s r = if_else (eqb (length s) 0) r (spoilt r Tag base)
read_form (plain tag lo hi f) d base s r = on_value tag lo hi d base s r (read_form f d) (spoilt r Tag base)
read_form (maybe tag lo hi f) d base s r = on_value tag lo hi d base s r (read_form f d) (read_form f d base s (noted r 0 0))
read_form (nested tag g f) d base s r =
    if_else (eqb d 0) (spoilt r Depth base)
    (on_head (head_of tag s)
    (λ start len. let q = read_form g (d - 1) (base + start) (take len (drop start s)) r in
    if_else (is_clean q.fault) (read_form f d (base + (start + len)) (drop (start + len) s) q) q)
    (spoilt r Tag base) (spoilt r Length base))

-- the reading of whole data, four objects deep at most [D4]
abbrev pub read_all : Form → List ℕ → Reading
read_all f s = read_form f 4 0 s fresh

-- the reading of a command's data, of which more than 65,535 bytes are refused [D8]
unfoldable pub read_by : Form → List ℕ → Reading
read_by f s = let q = read_all f s in if_else (ltb 65535 (length s)) (spoilt fresh Length 0) q

-- the same by rows [D11]
abbrev pub read_of : List (List ℕ) → List ℕ → Reading
read_of rows s = read_by (form_of rows) s

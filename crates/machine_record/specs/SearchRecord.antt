-- SEARCH RECORD.
use Rattle.std.specs.Prelude.{ℕ, ◌/◌, ◌%◌, Bool, List, [], ◌∷◌, length, get_or, leb, eqb, Option, Some, None, Result, Ok, Err}
use Rattle.base.specs.Choice.{if_else, all_of}
use Rattle.base.specs.Bytes.{part}
use Rattle.objects_templates.specs.Search.{read_search}
use Rattle.objects_templates.specs.declared.Search.{Search}
use Rattle.store_kinds.specs.declared.rules.Rule.{Rule}
use Rattle.machine_apdu.specs.Status.{normal, no_match, wrong_parameters, wrong_length, wrong_data}
use Rattle.machine_apdu.specs.declared.Frame.{Frame}
use Rattle.machine_reply_search.specs.Found.{hits, reply}
use Rattle.machine_session.specs.Order.{in_order}
use Rattle.machine_session.specs.Resolve.{resolve_record}
use Rattle.machine_session.specs.declared.Session.{Session}
use Rattle.machine_session.specs.declared.Named.{Named}
use Rattle.machine_session.specs.declared.Named.TheVariants.{Short, Id}
use Rattle.machine_session.specs.declared.Access.TheVariants.{Read}
use Rattle.machine_action.specs.Tests.{all_le, id_in, on_record}
use Rattle.machine_action.specs.declared.Action.{Action}
use Rattle.machine_action.specs.declared.Action.TheVariants.{SearchRecord}

-- the file reference and the string that the data of a search hold [Q2]
abbrev pub file_in : List ℕ → Search → List ℕ
file_in d q = part d q.file.at q.file.len

-- [Q2]
abbrev pub text_in : List ℕ → Search → List ℕ
text_in d q = part d q.text.at q.text.len

-- the short id that a byte spells: where its low three bits are 000 it is in b8 to b4, otherwise it is the byte itself [Q4]
unfoldable pub search_short : ℕ → ℕ
search_short b = if_else (eqb (b % 8) 0) (b / 8) b

-- a file reference of one byte spells a short id, one of two bytes is an id [Q4]
unfoldable pub search_named : List ℕ → Named
search_named v = if_else (eqb (length v) 1) (Short (search_short (get_or v 0 0))) (Id (id_in v))

-- [O10]
abbrev pub search_on : Search → ℕ → Rule → Result Action ℕ
search_on q ne r = Ok (SearchRecord r q ne)

-- step 6, then steps 7 to 9 [O6]
abbrev pub search_by : List ℕ → Session → ℕ → List ℕ → Option Search → Result Action ℕ
search_by img s ne d None = Err wrong_data
search_by img s ne d (Some q) = on_record (resolve_record img s Read (search_named (file_in d q))) (search_on q ne)

-- [Q1]
abbrev pub search_parameters : ℕ → ℕ → Bool
search_parameters p1 p2 = all_of (eqb p1 0 ∷ eqb p2 0xF8 ∷ [])

-- [Q1] [O4] [O5]
unfoldable pub search_record : List ℕ → Session → Frame → List ℕ → Result Action ℕ
search_record img s f d =
    in_order
    -- step 4
    ((search_parameters f.header.p1 f.header.p2, Err wrong_parameters)
    -- step 5
    ∷ (all_of (leb 1 f.lc ∷ all_le f ∷ []), Err wrong_length)
    ∷ [])
    (search_by img s f.ne d (read_search d))

-- ---- step 10, over the records of the file

-- the numbers of the records that the search lists [Q8]
unfoldable pub search_hits : List (List ℕ) → List ℕ → Search → List ℕ
search_hits rs d q = hits rs q.offset q.number (text_in d q) q.one

-- the reply that lists them [Q10]
unfoldable pub search_reply : List (List ℕ) → List ℕ → Search → List ℕ
search_reply rs d q = reply (file_in d q) (search_hits rs d q)

-- none matches; or the reply has more than Ne bytes; or it is answered [Q9] [Q11]
unfoldable pub search_status : List (List ℕ) → List ℕ → Search → ℕ → ℕ
search_status rs d q ne =
    in_order ((leb 1 (length (search_hits rs d q)), no_match) ∷ (leb (length (search_reply rs d q)) ne, wrong_length) ∷ []) normal

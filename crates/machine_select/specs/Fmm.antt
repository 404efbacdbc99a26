-- FILE AND MEMORY MANAGEMENT.
use Rattle.std.specs.Prelude.{ℕ, ◌/◌, ◌%◌, Bool, true, false, ◌||◌, List, [], ◌∷◌, length, get_or, leb, eqb, Option, Some, None, Result, Ok, Err}
use Rattle.base.specs.Choice.{if_else}
use Rattle.base.specs.Bytes.{part}
use Rattle.objects_templates.specs.Reference.{read_reference}
use Rattle.store_files.specs.declared.File.{File}
use Rattle.store_files.specs.declared.File.TheVariants.{RecordFile, TransparentFile}
use Rattle.machine_apdu.specs.Status.{wrong_parameters, wrong_length, wrong_data}
use Rattle.machine_apdu.specs.declared.Frame.{Frame}
use Rattle.machine_session.specs.Order.{in_order}
use Rattle.machine_session.specs.Resolve.{resolve_file}
use Rattle.machine_session.specs.declared.Session.{Session}
use Rattle.machine_session.specs.declared.Named.{Named}
use Rattle.machine_session.specs.declared.Named.TheVariants.{Current, Short, Id}
use Rattle.machine_action.specs.Tests.{all_le, id_in, on_file}
use Rattle.machine_action.specs.declared.Action.{Action}
use Rattle.machine_action.specs.declared.Action.TheVariants.{Report}
use Rattle.objects_templates.specs.Span.{Span}

-- [Z3]
abbrev pub is_record_file : File → Bool
is_record_file (RecordFile r) = true
is_record_file (TransparentFile t) = false

-- step 10: b2 and b3 of P2 ask for records, which a transparent file has not [Z3] [O10]
unfoldable pub fmm_on : ℕ → File → Result Action ℕ
fmm_on p2 f = in_order ((is_record_file f || eqb (p2 / 2) 0, Err wrong_parameters) ∷ []) (Ok (Report f p2))

-- steps 7 to 10 [O7] [O9]
unfoldable pub fmm_named : List ℕ → Session → ℕ → Named → Result Action ℕ
fmm_named img s p2 named = on_file (resolve_file img s named) (fmm_on p2)

-- step 6: a reference of one byte has the short id in b8 to b4, its low bits zero; one of two bytes is an id [Z2] [O6]
unfoldable pub fmm_file : List ℕ → Session → ℕ → List ℕ → Result Action ℕ
fmm_file img s p2 v =
    if_else (eqb (length v) 1)
    (in_order ((eqb (get_or v 0 0 % 8) 0, Err wrong_data) ∷ []) (fmm_named img s p2 (Short (get_or v 0 0 / 8))))
    (fmm_named img s p2 (Id (id_in v)))

-- [O6]
abbrev pub fmm_by : List ℕ → Session → ℕ → List ℕ → Option Span → Result Action ℕ
fmm_by img s p2 d None = Err wrong_data
fmm_by img s p2 d (Some p) = fmm_file img s p2 (part d p.at p.len)

-- P1 00 means the current file and has no data; P1 01 has a reference [Z1]
unfoldable pub lc_fits : ℕ → ℕ → Bool
lc_fits p1 lc = if_else (eqb p1 0) (eqb lc 0) (leb 1 lc)

-- P1 is 00 or 01 [Z1]
abbrev pub fmm_p1 : ℕ → Bool
fmm_p1 p1 = leb p1 1

-- P2 asks by its three low bits [Z3]
abbrev pub fmm_p2 : ℕ → Bool
fmm_p2 p2 = leb p2 7

-- [Z1] [Z3] [O4] [O5]
unfoldable pub fmm : List ℕ → Session → Frame → List ℕ → Result Action ℕ
fmm img s f d =
    in_order
    -- step 4
    ((fmm_p1 f.header.p1, Err wrong_parameters)
    ∷ (fmm_p2 f.header.p2, Err wrong_parameters)
    -- step 5
    ∷ (lc_fits f.header.p1 f.lc, Err wrong_length)
    ∷ (all_le f, Err wrong_length)
    ∷ [])
    (if_else (eqb f.header.p1 0) (fmm_named img s f.header.p2 Current) (fmm_by img s f.header.p2 d (read_reference d)))

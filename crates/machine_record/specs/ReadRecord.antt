-- READ RECORD.
use Rattle.std.specs.Prelude.{ℕ, ◌/◌, ◌%◌, Bool, ◌||◌, List, [], ◌∷◌, eqb, Option, Some, None, Result, Ok, Err}
use Rattle.base.specs.Choice.{if_else, all_of}
use Rattle.store_records.specs.Body.{count}
use Rattle.store_image.specs.Image.{body}
use Rattle.store_kinds.specs.declared.rules.Rule.{Rule}
use Rattle.machine_apdu.specs.Status.{wrong_parameters, wrong_length, record_not_found}
use Rattle.machine_apdu.specs.declared.Frame.{Frame}
use Rattle.machine_session.specs.Order.{in_order}
use Rattle.machine_session.specs.Resolve.{resolve_record}
use Rattle.machine_session.specs.Session.{is_record_of, current_record}
use Rattle.machine_session.specs.declared.Session.{Session}
use Rattle.machine_session.specs.declared.Access.TheVariants.{Read}
use Rattle.machine_action.specs.Tests.{or_current, on_record}
use Rattle.machine_action.specs.declared.Action.{Action}
use Rattle.machine_action.specs.declared.Action.TheVariants.{ReadRecord}

-- the record that P1 names: 00 is the current record of this file [J3]
unfoldable pub record_named : Session → Rule → ℕ → Option ℕ
record_named s r p1 = if_else (eqb p1 0) (current_record s r) (Some p1)

-- step 10: record n has to be there; one record is read, or all from it to the last [J2] [J4] [O10]
abbrev pub read_from : List ℕ → Bool → Rule → Option ℕ → Result Action ℕ
read_from img one r None = Err record_not_found
read_from img one r (Some n) =
    in_order ((is_record_of img r n, Err record_not_found) ∷ [])
    (Ok (ReadRecord r n (if_else one n (count (body img r.kind)))))

-- the low bits of P2: 100 one record, 101 from P1 to the last [J2]
unfoldable pub four_or_five : ℕ → Bool
four_or_five low = eqb low 4 || eqb low 5

-- [J2] [J3] [O10]
unfoldable pub read_record_on : List ℕ → Session → Frame → Rule → Result Action ℕ
read_record_on img s f r = read_from img (eqb (f.header.p2 % 8) 4) r (record_named s r f.header.p1)

-- no Lc, an extended Le of zeros [J1]
unfoldable pub all_of_record : Frame → Bool
all_of_record f = all_of (eqb f.lc 0 ∷ eqb f.le 2 ∷ eqb f.ne 65536 ∷ [])

-- [J1] [J2] [O4] [O5]
unfoldable pub read_record : List ℕ → Session → Frame → Result Action ℕ
read_record img s f =
    in_order
    -- step 4
    ((four_or_five (f.header.p2 % 8), Err wrong_parameters)
    -- step 5
    ∷ (all_of_record f, Err wrong_length)
    ∷ [])
    -- steps 7 to 10
    (on_record (resolve_record img s Read (or_current (f.header.p2 / 8))) (read_record_on img s f))

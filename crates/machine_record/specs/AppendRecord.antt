-- APPEND RECORD.
use Rattle.std.specs.Prelude.{ℕ, ◌/◌, ◌%◌, Bool, List, [], ◌∷◌, length, leb, ltb, eqb, Result, Ok, Err}
use Rattle.base.specs.Choice.{all_of}
use Rattle.store_records.specs.Body.{count, append_fits}
use Rattle.store_image.specs.Image.{body}
use Rattle.store_kinds.specs.declared.rules.Rule.{Rule}
use Rattle.machine_apdu.specs.Status.{wrong_parameters, wrong_length, no_room}
use Rattle.machine_apdu.specs.declared.Frame.{Frame}
use Rattle.machine_session.specs.Order.{in_order}
use Rattle.machine_session.specs.Resolve.{resolve_record}
use Rattle.machine_session.specs.declared.Session.{Session}
use Rattle.machine_session.specs.declared.Access.TheVariants.{Append}
use Rattle.machine_action.specs.Tests.{lc_only, or_current, on_record}
use Rattle.machine_action.specs.declared.Action.{Action}
use Rattle.machine_action.specs.declared.Action.TheVariants.{AppendRecord}

-- step 10: the record's length, then the most records, then the room [G2] [G3] [O10]
unfoldable pub append_on : List ℕ → ℕ → Rule → Result Action ℕ
append_on img n r =
    in_order
    ((leb n r.longest, Err wrong_length)
    ∷ (ltb (count (body img r.kind)) r.most, Err no_room)
    ∷ (append_fits (body img r.kind) n, Err no_room)
    ∷ [])
    (Ok (AppendRecord r))

-- P2 has a short id in its five high bits [G1]
abbrev pub append_parameters : ℕ → ℕ → Bool
append_parameters p1 p2 = all_of (eqb p1 0 ∷ eqb (p2 % 8) 0 ∷ [])

-- [G1] [O4] [O5]
unfoldable pub append_record : List ℕ → Session → Frame → List ℕ → Result Action ℕ
append_record img s f d =
    in_order
    -- step 4
    ((append_parameters f.header.p1 f.header.p2, Err wrong_parameters)
    -- step 5
    ∷ (lc_only f, Err wrong_length)
    ∷ [])
    -- steps 7 to 10
    (on_record (resolve_record img s Append (or_current (f.header.p2 / 8))) (append_on img (length d)))

-- UPDATE BINARY.
use Rattle.std.specs.Prelude.{ℕ, ◌+◌, List, [], ◌∷◌, leb, Option, Some, None, Result, Ok, Err}
use Rattle.store_kinds.specs.Biometrics.{written, room}
use Rattle.store_kinds.specs.Rules.{biometrics_kind}
use Rattle.store_image.specs.Image.{body}
use Rattle.objects_templates.specs.Update.{read_update}
use Rattle.objects_templates.specs.declared.Writes.{Writes}
use Rattle.machine_apdu.specs.Status.{wrong_length, wrong_data, no_room}
use Rattle.machine_apdu.specs.declared.Frame.{Frame}
use Rattle.machine_session.specs.Order.{in_order}
use Rattle.machine_session.specs.Resolve.{resolve_biometrics}
use Rattle.machine_session.specs.declared.Session.{Session}
use Rattle.machine_action.specs.Tests.{lc_only, p1p2, id_or_current, on_biometrics}
use Rattle.machine_action.specs.declared.Action.{Action}
use Rattle.machine_action.specs.declared.Action.TheVariants.{UpdateBinary}

-- step 10: the offset is no further than what is written, and the bytes have room [W4]
unfoldable pub update_on : List ℕ → Writes → ℕ → Result Action ℕ
update_on img w n =
    in_order
    ((leb w.offset (written (body img (biometrics_kind n))), Err wrong_data)
    ∷ (leb (w.offset + w.bytes.len) (room (body img (biometrics_kind n))), Err no_room)
    ∷ [])
    (Ok (UpdateBinary n w))

-- step 6, then steps 7 to 10 [O6]
abbrev pub update_by : List ℕ → Session → ℕ → Option Writes → Result Action ℕ
update_by img s i None = Err wrong_data
update_by img s i (Some w) = on_biometrics (resolve_biometrics img s (id_or_current i)) (update_on img w)

-- [W1] [O5]
unfoldable pub update_binary : List ℕ → Session → Frame → List ℕ → Result Action ℕ
update_binary img s f d =
    -- step 5
    in_order ((lc_only f, Err wrong_length) ∷ [])
    (update_by img s (p1p2 f) (read_update d))

-- ACTIVATE.
use Rattle.std.specs.Prelude.{ℕ, Bool, List, [], ◌∷◌, eqb, Result, Ok, Err}
use Rattle.base.specs.Choice.{all_of}
use Rattle.machine_apdu.specs.Status.{wrong_parameters, wrong_length}
use Rattle.machine_apdu.specs.declared.Frame.{Frame}
use Rattle.machine_session.specs.Order.{in_order}
use Rattle.machine_session.specs.Resolve.{resolve_biometrics}
use Rattle.machine_session.specs.declared.Session.{Session}
use Rattle.machine_session.specs.declared.Named.TheVariants.{Current}
use Rattle.machine_action.specs.Tests.{neither, on_biometrics}
use Rattle.machine_action.specs.declared.Action.{Action}
use Rattle.machine_action.specs.declared.Action.TheVariants.{Activate}

-- [A1]
abbrev pub activate_parameters : ℕ → ℕ → Bool
activate_parameters p1 p2 = all_of (eqb p1 0 ∷ eqb p2 0 ∷ [])

-- [A1] [O4] [O5]
unfoldable pub activate_file : List ℕ → Session → Frame → Result Action ℕ
activate_file img s f =
    in_order
    -- step 4
    ((activate_parameters f.header.p1 f.header.p2, Err wrong_parameters)
    -- step 5
    ∷ (neither f, Err wrong_length)
    ∷ [])
    -- steps 7 to 9
    (on_biometrics (resolve_biometrics img s Current) (λ (n : ℕ). Ok (Activate n)))

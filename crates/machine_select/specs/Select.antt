-- SELECT.
use Rattle.std.specs.Prelude.{ℕ, Bool, ◌||◌, List, [], ◌∷◌, eqb, Option, Some, None, Result, Ok, Err}
use Rattle.base.specs.Choice.{if_else}
use Rattle.store_image.specs.Image.{present}
use Rattle.store_files.specs.Master.{aid_of}
use Rattle.machine_rights.specs.Rights.{flagged}
use Rattle.machine_apdu.specs.Status.{wrong_parameters, wrong_length, file_not_found, not_permitted}
use Rattle.machine_apdu.specs.declared.Frame.{Frame}
use Rattle.machine_session.specs.Order.{in_order}
use Rattle.machine_session.specs.Resolve.{resolve_file}
use Rattle.machine_session.specs.declared.Session.{Session}
use Rattle.machine_session.specs.declared.Named.TheVariants.{Id}
use Rattle.machine_action.specs.Tests.{lc_only, id_in, on_file}
use Rattle.machine_action.specs.declared.Action.{Action}
use Rattle.machine_action.specs.declared.Action.TheVariants.{SelectApplication, SelectFile}
use Rattle.store_files.specs.declared.File.{File}

-- P1 04, by an AID: the application is present (step 7) and its flag is on (step 9) [L2] [L3]
abbrev pub select_aid : List ℕ → Session → Option ℕ → Result Action ℕ
select_aid img s (Some a) =
    in_order ((present img a, Err file_not_found) ∷ (flagged s.rights a, Err not_permitted) ∷ []) (Ok (SelectApplication a))
select_aid img s None = Err file_not_found

-- P1 02, by an id in the selected application [L4]
unfoldable pub select_file : List ℕ → Session → ℕ → Result Action ℕ
select_file img s i = on_file (resolve_file img s (Id i)) (λ (f : File). Ok (SelectFile f))

-- P1 00: the master file alone [L5]
unfoldable pub select_master : ℕ → Result Action ℕ
select_master i = if_else (eqb i 0x3F00) (Ok (SelectApplication 0)) (Err file_not_found)

-- steps 7 to 9, by P1 [L1]
unfoldable pub select_by : List ℕ → Session → ℕ → List ℕ → Result Action ℕ
select_by img s p1 d =
    if_else (eqb p1 0x04) (select_aid img s (aid_of d)) (if_else (eqb p1 0x02) (select_file img s (id_in d)) (select_master (id_in d)))

-- [L1]
unfoldable pub one_of_three : ℕ → Bool
one_of_three p1 = eqb p1 0x04 || (eqb p1 0x02 || eqb p1 0x00)

-- an id has two bytes; an AID of any length is looked up [L4] [L5]
unfoldable pub length_fits : ℕ → ℕ → Bool
length_fits p1 lc = eqb p1 0x04 || eqb lc 2

-- P2 is 0C: no answer data [L1]
abbrev pub select_p2 : ℕ → Bool
select_p2 p2 = eqb p2 0x0C

-- [L1] [O4] [O5]
unfoldable pub select : List ℕ → Session → Frame → List ℕ → Result Action ℕ
select img s f d =
    in_order
    -- step 4
    ((select_p2 f.header.p2, Err wrong_parameters)
    ∷ (one_of_three f.header.p1, Err wrong_parameters)
    -- step 5
    ∷ (lc_only f, Err wrong_length)
    ∷ (length_fits f.header.p1 f.lc, Err wrong_length)
    ∷ [])
    (select_by img s f.header.p1 d)

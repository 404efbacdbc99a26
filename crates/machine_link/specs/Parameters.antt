-- Step 4, for every command by its INS: the tests are those that the commands have.
use Rattle.std.specs.Prelude.{ℕ, ◌%◌, Bool, true, false, [], ◌∷◌, eqb}
use Rattle.base.specs.Choice.{if_else, all_of}
use Rattle.machine_select.specs.Select.{select_p2, one_of_three}
use Rattle.machine_select.specs.Fmm.{fmm_p1, fmm_p2}
use Rattle.machine_binary.specs.ReadBinary.{p1_fits}
use Rattle.machine_binary.specs.Activate.{activate_parameters}
use Rattle.machine_record.specs.AppendRecord.{append_parameters}
use Rattle.machine_record.specs.ReadRecord.{four_or_five}
use Rattle.machine_record.specs.SearchRecord.{search_parameters}

-- the command with this INS has these P1 and P2; an INS that no command has fits none [O4] [LK7]
unfoldable pub parameters_fit : ℕ → ℕ → ℕ → Bool
parameters_fit ins p1 p2 =
    if_else (eqb ins 0xA4) (all_of (select_p2 p2 ∷ one_of_three p1 ∷ []))
    (if_else (eqb ins 0xB0) (p1_fits p1)
    (if_else (eqb ins 0xB1) true
    (if_else (eqb ins 0xD7) true
    (if_else (eqb ins 0x44) (activate_parameters p1 p2)
    (if_else (eqb ins 0xE2) (append_parameters p1 p2)
    (if_else (eqb ins 0xB2) (four_or_five (p2 % 8))
    (if_else (eqb ins 0xA2) (search_parameters p1 p2)
    (if_else (eqb ins 0x5E) (all_of (fmm_p1 p1 ∷ fmm_p2 p2 ∷ [])) false))))))))

-- Which file an id or a short id means in an application, and what a transparent file holds. The master file is application 0.
use Rattle.std.specs.Prelude.{ℕ, ◌+◌, ◌-◌, List, [], ◌∷◌, leb, eqb, Option, Some, None}
use Rattle.base.specs.Choice.{if_else, all_of}
use Rattle.store_kinds.specs.Rules.{rule_of, biometrics, biometrics_kind}
use Rattle.store_image.specs.Image.{has, body}
use Rattle.store_kinds.specs.Biometrics.{written_bytes}
use Rattle.store_kinds.specs.declared.rules.Key.TheVariants.{Id, Short}
use Rattle.store_files.specs.Master.{info, dir}
use Rattle.store_files.specs.declared.Transparent.{Transparent}
use Rattle.store_files.specs.declared.Transparent.TheVariants.{Info, Dir, Biometrics}
use Rattle.store_files.specs.declared.File.{File}
use Rattle.store_files.specs.declared.File.TheVariants.{RecordFile, TransparentFile}
use Rattle.store_kinds.specs.declared.rules.Rule.{Rule}

-- the record file of a rule, if the card has it; where there is no rule, what else is known [F3]
abbrev pub ruled : List ℕ → Option Rule → Option File → Option File
ruled img (Some r) other = if_else (has img r.kind) (Some (RecordFile r)) None
ruled img None other = other

-- the biometrics file of an id, if the card has it [K2] [F3]
unfoldable pub biometrics_by_id : List ℕ → ℕ → ℕ → Option File
biometrics_by_id img a i =
    if_else (all_of (eqb a biometrics ∷ leb 0x0201 i ∷ leb i 0x0240 ∷ has img (biometrics_kind (i - 0x0200)) ∷ []))
    (Some (TransparentFile (Biometrics (i - 0x0200))))
    None

-- a file of the master file, by the numbers that EF.ATR/INFO and EF.DIR go by [E1] [E2] [F2]
unfoldable pub master_by : ℕ → ℕ → ℕ → Option File
master_by of_info of_dir i =
    if_else (eqb i of_info) (Some (TransparentFile Info)) (if_else (eqb i of_dir) (Some (TransparentFile Dir)) None)

-- the file of an id in application a [F1] [F2] [E1] [E2]
unfoldable pub by_id : List ℕ → ℕ → ℕ → Option File
by_id img a i = if_else (eqb a 0) (master_by 0x2F01 0x2F00 i) (ruled img (rule_of (Id a i)) (biometrics_by_id img a i))

-- the file of a short id in application a [F1] [F2] [F4] [E1] [E2]
unfoldable pub by_short : List ℕ → ℕ → ℕ → Option File
by_short img a s = if_else (eqb a 0) (master_by 0x01 0x1E s) (ruled img (rule_of (Short a s)) None)

-- the id of a transparent file [F6]
unfoldable pub transparent_id : Transparent → ℕ
transparent_id Info = 0x2F01
transparent_id Dir = 0x2F00
transparent_id (Biometrics n) = 0x0200 + n

-- the id of a file [F6] [K2]
unfoldable pub id_of : File → ℕ
id_of (RecordFile r) = r.id
id_of (TransparentFile t) = transparent_id t

-- the bytes of a transparent file [F5]
unfoldable pub file_bytes : List ℕ → Transparent → List ℕ
file_bytes img Info = info
file_bytes img Dir = dir img
file_bytes img (Biometrics n) = written_bytes (body img (biometrics_kind n))

-- The reply of FMM: a file's three numbers, and the data object that has those asked for.
use Rattle.std.specs.Prelude.{ℕ, ◌+◌, ◌-◌, ◌*◌, ◌/◌, ◌%◌, min, List, [], ◌++◌, length, eqb}
use Rattle.base.specs.Choice.{if_else}
use Rattle.objects_writer.specs.Number.{shortest}
use Rattle.objects_writer.specs.Writing.{tlv}
use Rattle.store_records.specs.Body.{count, used}
use Rattle.store_kinds.specs.Biometrics.{room}
use Rattle.store_kinds.specs.Rules.{biometrics_kind}
use Rattle.store_image.specs.Image.{body}
use Rattle.store_files.specs.Files.{file_bytes}
use Rattle.store_files.specs.declared.File.{File}
use Rattle.store_files.specs.declared.File.TheVariants.{RecordFile, TransparentFile}
use Rattle.store_files.specs.declared.Transparent.{Transparent}
use Rattle.store_files.specs.declared.Transparent.TheVariants.{Info, Dir, Biometrics}

-- the bytes that records can have in a body, next to the count and the lengths [Z5]
unfoldable pub capacity : List ℕ → ℕ
capacity xs = length xs - 2 - 2 * count xs

-- how many more records surely go into a body [Z6]
unfoldable pub further : ℕ → ℕ → List ℕ → ℕ
further longest most xs = min (most - count xs) ((length xs - used xs) / (2 + longest))

-- the total of a transparent file: the constant's length, or the room [Z5]
unfoldable pub transparent_total : List ℕ → Transparent → ℕ
transparent_total img Info = length (file_bytes img Info)
transparent_total img Dir = length (file_bytes img Dir)
transparent_total img (Biometrics n) = room (body img (biometrics_kind n))

-- [Z5]
unfoldable pub total : List ℕ → File → ℕ
total img (RecordFile r) = capacity (body img r.kind)
total img (TransparentFile t) = transparent_total img t

-- the records that surely still go in; a transparent file is not asked for them [Z6]
unfoldable pub remaining : List ℕ → File → ℕ
remaining img (RecordFile r) = further r.longest r.most (body img r.kind)
remaining img (TransparentFile t) = 0

-- the records that are there [Z7]
unfoldable pub existing : List ℕ → File → ℕ
existing img (RecordFile r) = count (body img r.kind)
existing img (TransparentFile t) = 0

-- the object of a number, where its bit of P2 asks for it [Z4] [D7]
unfoldable pub asked : ℕ → ℕ → ℕ → List ℕ
asked bit tag n = if_else (eqb bit 1) (tlv tag (shortest n)) []

-- b1 of P2 asks for the total, b2 for what remains, b3 for what exists [Z4]
unfoldable pub report_data : ℕ → ℕ → ℕ → ℕ → List ℕ
report_data p2 t r e =
    if_else (eqb p2 0) [] (tlv 0x7F78 (asked (p2 % 2) 0x81 t ++ asked (p2 / 2 % 2) 0x82 r ++ asked (p2 / 4 % 2) 0x83 e))

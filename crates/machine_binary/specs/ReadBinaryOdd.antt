-- READ BINARY with the odd INS, B1: the offset stands in the data, and the reply is an object.
use Rattle.std.specs.Prelude.{ℕ, ◌-◌, min, List, [], ◌∷◌, length, ltb, leb, Option, Some, None, Result, Ok, Err}
use Rattle.store_files.specs.Files.{file_bytes}
use Rattle.store_files.specs.declared.Transparent.{Transparent}
use Rattle.objects_writer.specs.Fitting.{longest_within}
use Rattle.objects_templates.specs.OffsetObject.{read_offset_object}
use Rattle.machine_apdu.specs.Status.{wrong_length, wrong_data, wrong_offset}
use Rattle.machine_apdu.specs.declared.Frame.{Frame}
use Rattle.machine_session.specs.Order.{in_order}
use Rattle.machine_session.specs.Resolve.{resolve_transparent}
use Rattle.machine_session.specs.declared.Session.{Session}
use Rattle.machine_action.specs.Tests.{lc_and_le, p1p2, id_or_current, on_transparent}
use Rattle.machine_action.specs.declared.Action.{Action}
use Rattle.machine_action.specs.declared.Action.TheVariants.{ReadBinaryOdd}

-- step 10: the offset stands before the file's end, and Ne has room for one byte in an object. Returned are as many bytes as there are from the
-- offset on, but no more than an object of at most Ne and at most 2,048 bytes holds [Y9] [Y10]
unfoldable pub read_odd_on : List ℕ → ℕ → ℕ → Transparent → Result Action ℕ
read_odd_on img offset ne t =
    in_order
    ((ltb offset (length (file_bytes img t)), Err wrong_offset)
    ∷ (leb 3 ne, Err wrong_length)
    ∷ [])
    (Ok (ReadBinaryOdd t offset (longest_within (min ne 2048) (length (file_bytes img t) - offset))))

-- step 6, then steps 7 to 10 [Y7] [O6]
abbrev pub read_odd_by : List ℕ → Session → Frame → Option ℕ → Result Action ℕ
read_odd_by img s f None = Err wrong_data
read_odd_by img s f (Some offset) = on_transparent (resolve_transparent img s (id_or_current (p1p2 f))) (read_odd_on img offset f.ne)

-- [Y7] [O5]
unfoldable pub read_binary_odd : List ℕ → Session → Frame → List ℕ → Result Action ℕ
read_binary_odd img s f d =
    -- step 5
    in_order ((lc_and_le f, Err wrong_length) ∷ [])
    (read_odd_by img s f (read_offset_object d))

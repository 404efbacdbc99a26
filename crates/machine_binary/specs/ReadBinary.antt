-- READ BINARY.
use Rattle.std.specs.Prelude.{ℕ, ◌-◌, ◌/◌, ◌%◌, min, Bool, ◌||◌, List, [], ◌∷◌, length, ltb, eqb, Result, Ok, Err}
use Rattle.base.specs.Choice.{if_else}
use Rattle.store_files.specs.Files.{file_bytes}
use Rattle.store_files.specs.declared.Transparent.{Transparent}
use Rattle.machine_apdu.specs.Status.{wrong_parameters, wrong_length, wrong_offset}
use Rattle.machine_apdu.specs.declared.Frame.{Frame}
use Rattle.machine_session.specs.Order.{in_order}
use Rattle.machine_session.specs.Resolve.{resolve_transparent}
use Rattle.machine_session.specs.declared.Session.{Session}
use Rattle.machine_session.specs.declared.Named.{Named}
use Rattle.machine_session.specs.declared.Named.TheVariants.{Current, Short}
use Rattle.machine_action.specs.Tests.{le_only, p1p2, on_transparent}
use Rattle.machine_action.specs.declared.Action.{Action}
use Rattle.machine_action.specs.declared.Action.TheVariants.{ReadBinary}

-- P1 with b8 zero means the current file [Y2]
unfoldable pub names_current : ℕ → Bool
names_current p1 = ltb p1 0x80

-- P1 with b8 one has b7 and b6 zero, so that its three high bits are 100 [Y3]
unfoldable pub p1_fits : ℕ → Bool
p1_fits p1 = names_current p1 || eqb (p1 / 0x20) 4

-- the short id stands in b5 to b1 of P1 [Y2] [Y3]
unfoldable pub read_named : Frame → Named
read_named f = if_else (names_current f.header.p1) Current (Short (f.header.p1 % 0x20))

-- the offset is P1-P2, or P2 where P1 has a short id [Y2] [Y3]
unfoldable pub read_offset : Frame → ℕ
read_offset f = if_else (names_current f.header.p1) (p1p2 f) f.header.p2

-- step 10: the offset stands before the file's end; at most Ne, at most 2,048 bytes, at most to the end [Y4] [Y5]
unfoldable pub read_binary_on : List ℕ → ℕ → ℕ → Transparent → Result Action ℕ
read_binary_on img offset ne t =
    in_order ((ltb offset (length (file_bytes img t)), Err wrong_offset) ∷ [])
    (Ok (ReadBinary t offset (min ne (min 2048 (length (file_bytes img t) - offset)))))

-- [Y1] [Y3] [O4] [O5]
unfoldable pub read_binary : List ℕ → Session → Frame → Result Action ℕ
read_binary img s f =
    in_order
    -- step 4
    ((p1_fits f.header.p1, Err wrong_parameters)
    -- step 5
    ∷ (le_only f, Err wrong_length)
    ∷ [])
    -- steps 7 to 10
    (on_transparent (resolve_transparent img s (read_named f)) (read_binary_on img (read_offset f) f.ne))

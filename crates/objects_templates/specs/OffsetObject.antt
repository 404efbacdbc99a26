-- The object `54`, an offset in a file: it stands first in the data of UPDATE BINARY, and alone in that of READ BINARY with INS B1.
use Rattle.std.specs.Prelude.{ℕ, ◌≤◌, ◌≡◌, List, length, Option, Some, None}
use Rattle.objects_writer.specs.Number.{big}
use Rattle.objects_writer.specs.Writing.{tlv}
use Rattle.objects_reader.specs.Form.{Form, done, plain}
use Rattle.objects_reader.specs.Places.{number_at, read_as}
use Rattle.objects_reader.specs.declared.reader.Reading.{Reading}

-- an offset has 1 to 3 bytes [W2] [Y8]
abbrev pub OffsetSize : (offset : List ℕ) → Type 0
OffsetSize offset = (1 ≤ length offset) × (length offset ≤ 3)

-- the same as a form: `54`, and what follows it [W2] [Y8]
abbrev pub offset_then : Form → Form
offset_then rest = plain 0x54 1 3 rest

-- ---- the data of READ BINARY with INS B1

-- `54` offset [Y8]
unfoldable pub offset_data : (offset : List ℕ) → List ℕ
offset_data offset = tlv 0x54 offset

-- the same as a form: nothing follows it [Y8]
abbrev pub offset_form : Form
offset_form = offset_then done

-- the offset is big-endian [Y8]
abbrev pub offset_of : List ℕ → Reading → Option ℕ
offset_of s r = Some (number_at s r 0)

-- what is answered for data: anything else is refused, which is 6A80 [Y8] [D5]
unfoldable pub read_offset_object : List ℕ → Option ℕ
read_offset_object s = read_as offset_form s (offset_of s) None

-- s is the writing of this offset, and n is its value [Y8] [D11]
pub record Offsets (s : List ℕ) (n : ℕ) (offset : List ℕ) : Type 0 where
  pub written : s ≡ offset_data offset
  pub size : OffsetSize offset
  pub offset_is : n ≡ big offset

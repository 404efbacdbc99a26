-- The data of UPDATE BINARY.
use Rattle.std.specs.Prelude.{ℕ, ◌≤◌, ◌≡◌, List, ◌++◌, length, Option, Some, None}
use Rattle.objects_writer.specs.Number.{big}
use Rattle.objects_writer.specs.Writing.{tlv}
use Rattle.objects_reader.specs.Form.{Form, done, plain}
use Rattle.objects_reader.specs.Places.{number_at, read_as, Placed}
use Rattle.objects_reader.specs.Places.{span_at}
use Rattle.objects_templates.specs.OffsetObject.{OffsetSize, offset_then}
use Rattle.objects_reader.specs.declared.reader.Reading.{Reading}
use Rattle.objects_templates.specs.declared.Writes.{Writes}

-- the data: `54` offset, `53` bytes [W2]
unfoldable pub update_data : (offset bytes : List ℕ) → List ℕ
update_data offset bytes = tlv 0x54 offset ++ tlv 0x53 bytes

-- the same as a form: behind the offset stand the bytes, perhaps none; no other object, C0 neither [W2] [W3]
abbrev pub update_form : Form
update_form = offset_then (plain 0x53 0 65535 done)

-- what its two values ask for; the offset is big-endian [W2]
abbrev pub write_of : List ℕ → Reading → Option Writes
write_of s r = Some (record { offset = number_at s r 0; bytes = span_at r 1 })

-- what is answered for data: anything else is refused, which is 6A80 [W2] [W3] [D5]
unfoldable pub read_update : List ℕ → Option Writes
read_update s = read_as update_form s (write_of s) None

-- fields of the sizes that are allowed, in data of at most 65,535 bytes [W2]
pub record UpdateSized (offset bytes : List ℕ) : Type 0 where
  pub offset_size : OffsetSize offset
  pub whole : length (update_data offset bytes) ≤ 65535

-- s is the writing of these fields, and w says what they are [W2] [D11]
pub record Updates (s : List ℕ) (w : Writes) (offset bytes : List ℕ) : Type 0 where
  pub written : s ≡ update_data offset bytes
  pub sized : UpdateSized offset bytes
  pub offset_is : w.offset ≡ big offset
  pub bytes_placed : Placed s w.bytes.at w.bytes.len bytes

-- The data of FMM.
use Rattle.std.specs.Prelude.{ℕ, ◌≤◌, ◌≡◌, List, length, Option, Some, None}
use Rattle.objects_writer.specs.Writing.{tlv}
use Rattle.objects_reader.specs.Form.{Form, done, plain}
use Rattle.objects_reader.specs.Places.{read_as, Placed}
use Rattle.objects_reader.specs.Places.{span_at}
use Rattle.objects_reader.specs.declared.reader.Reading.{Reading}
use Rattle.objects_reader.specs.declared.reader.Span.{Span}

-- the data: `51` and the file [Z2]
unfoldable pub reference_data : (file : List ℕ) → List ℕ
reference_data file = tlv 0x51 file

-- the same as a form: the file has 1 or 2 bytes [Z2]
abbrev pub reference_form : Form
reference_form = plain 0x51 1 2 done

-- where its value stands [Z2]
abbrev pub named_of : Reading → Option Span
named_of r = Some (span_at r 0)

-- what is answered for data: anything else is refused, which is 6A80 [Z2] [D5]
unfoldable pub read_reference : List ℕ → Option Span
read_reference s = read_as reference_form s named_of None

-- s is the writing of this file reference, and p says where it stands [Z2] [D11]
pub record References (s : List ℕ) (p : Span) (file : List ℕ) : Type 0 where
  pub written : s ≡ reference_data file
  pub file_size : (1 ≤ length file) × (length file ≤ 2)
  pub file_placed : Placed s p.at p.len file

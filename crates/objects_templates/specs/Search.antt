-- The data of SEARCH RECORD.
use Rattle.std.specs.Prelude.{ℕ, ◌≤◌, ◌≡◌, ◌⊎◌, List, [], ◌∷◌, ◌++◌, length, eqb, Option, Some, None}
use Rattle.base.specs.Choice.{if_else}
use Rattle.objects_writer.specs.Number.{big}
use Rattle.objects_writer.specs.Writing.{tlv}
use Rattle.objects_reader.specs.Form.{Form, done, plain, nested}
use Rattle.objects_reader.specs.Places.{number_at, read_as, Placed}
use Rattle.objects_reader.specs.Places.{span_at}
use Rattle.objects_reader.specs.declared.reader.Reading.{Reading}
use Rattle.objects_templates.specs.declared.Search.{Search}

-- the fields of a search [Q2]
pub record SearchFields : Type 0 where
  pub file : List ℕ
  pub mode : ℕ
  pub offset : List ℕ
  pub number : List ℕ
  pub text : List ℕ

-- the data: `7F76`{`51` file, `A1`{`80` mode, `B0`{`02` offset, `02` number}}, `A3`{`B1`{`81` string}}} [Q2]
unfoldable pub search_data : SearchFields → List ℕ
search_data x =
    tlv 0x7F76
    (tlv 0x51 x.file
    ++ tlv 0xA1 (tlv 0x80 (x.mode ∷ []) ++ tlv 0xB0 (tlv 0x02 x.offset ++ tlv 0x02 x.number))
    ++ tlv 0xA3 (tlv 0xB1 (tlv 0x81 x.text)))

-- the same as a form: the file has 1 or 2 bytes, the mode 1, offset and number 1 or 2 each, the string 1 or more [Q2] [Q5]
abbrev pub search_form : Form
search_form =
    nested 0x7F76
    (plain 0x51 1 2
    (nested 0xA1 (plain 0x80 1 1 (nested 0xB0 (plain 0x02 1 2 (plain 0x02 1 2 done)) done))
    (nested 0xA3 (nested 0xB1 (plain 0x81 1 65535 done) done)
    done)))
    done

-- what its five values ask for; mode 30 asks for the first match alone [Q2] [Q3]
abbrev pub search_of : List ℕ → Reading → Search
search_of s r = record {
  file = span_at r 0;
  one = eqb (number_at s r 1) 0x30;
  offset = number_at s r 2;
  number = number_at s r 3;
  text = span_at r 4;
}

-- the mode is 00 or 30, else there is no search [Q3]
abbrev pub ask_of : List ℕ → Reading → Option Search
ask_of s r = if_else (eqb (number_at s r 1) 0) (Some (search_of s r)) (if_else (eqb (number_at s r 1) 0x30) (Some (search_of s r)) None)

-- what is answered for data: anything else is refused, which is 6A80 [Q2] [D5]
unfoldable pub read_search : List ℕ → Option Search
read_search s = read_as search_form s (ask_of s) None

-- fields of the sizes that are allowed, in data of at most 65,535 bytes [Q3] [Q4] [Q5]
pub record SearchSized (x : SearchFields) : Type 0 where
  pub file_size : (1 ≤ length x.file) × (length x.file ≤ 2)
  pub mode_is : (x.mode ≡ 0) ⊎ (x.mode ≡ 0x30)
  pub offset_size : (1 ≤ length x.offset) × (length x.offset ≤ 2)
  pub number_size : (1 ≤ length x.number) × (length x.number ≤ 2)
  pub text_size : 1 ≤ length x.text
  pub whole : length (search_data x) ≤ 65535

-- s is the writing of these fields, and q says what they are [Q2] [D11]
pub record Searches (s : List ℕ) (q : Search) (x : SearchFields) : Type 0 where
  pub written : s ≡ search_data x
  pub sized : SearchSized x
  pub file_placed : Placed s q.file.at q.file.len x.file
  pub one_is : q.one ≡ eqb x.mode 0x30
  pub offset_is : q.offset ≡ big x.offset
  pub number_is : q.number ≡ big x.number
  pub text_placed : Placed s q.text.at q.text.len x.text

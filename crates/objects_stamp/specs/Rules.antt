-- Table 11 as the reader goes by it: its rows as a form, and the contents of its thirteen fields. `stamp_sound` and `stamp_complete` prove
-- that these are the rules of Stamp.antt.
use Rattle.std.specs.Prelude.{ℕ, List, [], ◌∷◌, Bool, true, ◌&&◌, get_or, eqb}
use Rattle.base.specs.Choice.{if_else}
use Rattle.base.specs.Bytes.{part, same_bytes}
use Rattle.objects_reader.specs.Form.{Form, done, plain, maybe, nested}
use Rattle.objects_stamp.specs.declared.chars.Chars.{Chars}
use Rattle.objects_stamp.specs.declared.chars.Chars.TheVariants.{Letters, Digits, Text, Binary, Reference}
use Rattle.objects_stamp.specs.Chars.{allows_all}

-- [TR1] [TR3] [TR5]
abbrev pub stamp_form : Form
stamp_form =
    plain 0x5F44 3 3
    (nested 0x73
    (plain 0x5F44 3 3
    (maybe 0x5F4C 1 50
    (plain 0x5F45 8 8
    (plain 0x5F4B 1 10
    (plain 0x5F46 1 10
    (plain 0x5F4A 1 20
    (maybe 0x5F4D 1 50
    (maybe 0x5F49 1 1
    (maybe 0x5F48 1 2
    (maybe 0x5F4E 1 50
    done))))))))))
    (plain 0x5F37 1 140
    (plain 0x5F38 1 1
    done)))

-- the characters of the fields, in the order of the table [TR3]
abbrev pub table_chars : List Chars
table_chars = Letters ∷ Letters ∷ Text ∷ Digits ∷ Text ∷ Text ∷ Text ∷ Text ∷ Letters ∷ Binary ∷ Text ∷ Binary ∷ Reference ∷ []

-- those of the k-th field, counted from 0 [TR3]
unfoldable pub chars_of : ℕ → Chars
chars_of k = get_or table_chars k Letters

-- The k-th field may be the len bytes of the record s from start on. The State inside `73` is also the copy at the front, whose value
-- stands from byte 3 on. [TR3] [TR4]
unfoldable pub content_ok : List ℕ → ℕ → ℕ → ℕ → Bool
content_ok s k start len = allows_all (chars_of k) (part s start len) && if_else (eqb k 1) (same_bytes (part s start len) (part s 3 len)) true

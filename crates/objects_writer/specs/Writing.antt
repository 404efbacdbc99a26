-- How a data object is written: a tag, a length in its one form, and the value.
use Rattle.std.specs.Prelude.{ℕ, ◌/◌, ◌%◌, List, [], ◌∷◌, ◌++◌, length, ltb}
use Rattle.base.specs.Choice.{if_else}

-- a length in its one form: below 80 one byte, below 0100 two bytes, from there on three [D2]
unfoldable pub length_bytes : ℕ → List ℕ
length_bytes n = if_else (ltb n 0x80) (n ∷ []) (if_else (ltb n 0x100) (0x81 ∷ n ∷ []) (0x82 ∷ n / 256 ∷ n % 256 ∷ []))

-- a tag below 0100 is one byte, any other two [D1]
unfoldable pub tag_bytes : ℕ → List ℕ
tag_bytes t = if_else (ltb t 0x100) (t ∷ []) (t / 256 ∷ t % 256 ∷ [])

-- the object of tag t whose value is v [D1]
unfoldable pub tlv : ℕ → List ℕ → List ℕ
tlv t v = tag_bytes t ++ length_bytes (length v) ++ v

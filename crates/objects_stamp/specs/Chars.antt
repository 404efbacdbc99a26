-- The characters that the fields of a stamp may have.
use Rattle.std.specs.Prelude.{ℕ, List, Bool, true, ◌&&◌, ◌||◌, leb, eqb}
use Rattle.std.specs.List.{list_all}
use Rattle.objects_stamp.specs.declared.chars.Chars.{Chars}
use Rattle.objects_stamp.specs.declared.chars.Chars.TheVariants.{Letters, Digits, Text, Binary, Reference}

-- lo to hi [TR2]
abbrev pub between : (lo hi b : ℕ) → Bool
between lo hi b = leb lo b && leb b hi

-- A to Z, a to z [TR2]
unfoldable pub is_letter : ℕ → Bool
is_letter b = between 0x41 0x5A b || between 0x61 0x7A b

-- 0 to 9 [TR2]
unfoldable pub is_digit : ℕ → Bool
is_digit b = between 0x30 0x39 b

-- `<` and the space [TR2]
unfoldable pub is_special : ℕ → Bool
is_special b = eqb b 0x3C || eqb b 0x20

-- these characters have the byte b [TR2] [TR3]
abbrev pub allows : Chars → ℕ → Bool
allows Letters b = is_letter b
allows Digits b = is_digit b
allows Text b = is_letter b || (is_digit b || is_special b)
allows Binary b = true
allows Reference b = between 0x01 0xFE b

-- they have each of the bytes [TR2]
unfoldable pub allows_all : Chars → List ℕ → Bool
allows_all c v = list_all (allows c) v

-- The list that asks for no change, and an image that such a move gives back byte for byte.
use Rattle.std.specs.Prelude.{ℕ, zero, suc, ◌≡◌, true, List, [], ◌++◌, length, leb}
use Rattle.base.specs.Choice.{if_else}
use Rattle.base.specs.Bytes.{part}
use Rattle.store_image.specs.Image.{end_at, has, body}
use Rattle.store_move_plan.specs.Rooms.{filled}
use Rattle.store_move.specs.Moving.{content}

-- the heads of the sections from p on, one behind the other. n bounds the sections passed [M12]
unfoldable pub heads_from : ℕ → List ℕ → ℕ → List ℕ
heads_from zero old p = []
heads_from (suc n) old p = if_else (leb (length old) p) [] (part old p 6 ++ heads_from n old (end_at old p))

-- the list of an image's own kinds and body lengths, since a row has the bytes of a section's head. (A section has six bytes or more,
-- so there are no more of them than bytes.) [M12]
unfoldable pub heads : List ℕ → List ℕ
heads old = heads_from (length old) old 0

-- the free bytes of each file are zero: its body is its content with zeros behind it [M12]
unfoldable pub FreeZero : List ℕ → Type 0
FreeZero old = (k : ℕ) → has old k ≡ true → body old k ≡ filled (length (body old k)) (content old k)

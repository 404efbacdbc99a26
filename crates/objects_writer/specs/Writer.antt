-- What is stored of an object: all of its bytes, or nothing where there is no room for them.
use Rattle.std.specs.Prelude.{ℕ, ◌+◌, ◌&&◌, List, [], ◌++◌, length, ltb}
use Rattle.base.specs.Choice.{if_else}
use Rattle.base.specs.Bytes.{put_fits}
use Rattle.objects_writer.specs.Writing.{tag_bytes, length_bytes}

-- an object's tag and length; above 65,535 there is no writing of either [D1] [D2]
unfoldable pub head_bytes : ℕ → ℕ → List ℕ
head_bytes tag len = if_else (ltb tag 0x10000 && ltb len 0x10000) (tag_bytes tag ++ length_bytes len) []

-- the place behind b stored from `at` on, where all of b fits; else `at` [V9]
unfoldable pub put_end : List ℕ → ℕ → List ℕ → ℕ
put_end out at b = if_else (put_fits out at b) (at + length b) at

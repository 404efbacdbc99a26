-- Lists of bytes: parts of one, and a run of bytes stored in it. `get_or xs i 0` is the byte at i, and 0 past the end.
use Rattle.std.specs.Prelude.{ℕ, ◌+◌, ◌<◌, Bool, true, false, ◌&&◌, List, [], ◌∷◌, ◌++◌, length, get_or, take, drop, leb, eqb}
use Rattle.std.proofs.lemmas.List.Edits.{sets}
use Rattle.base.specs.Choice.{if_else}

-- every element is a byte [V4]
unfoldable pub AllBytes : List ℕ → Type 0
AllBytes xs = (i : ℕ) → get_or xs i 0 < 256

-- the n bytes from a on, cut at the list's end [V8]
abbrev pub part : List ℕ → ℕ → ℕ → List ℕ
part xs a n = take n (drop a xs)

-- the same bytes, and as many [V8]
unfoldable pub same_bytes : List ℕ → List ℕ → Bool
same_bytes [] [] = true
same_bytes [] (y ∷ ys) = false
same_bytes (x ∷ xs) [] = false
same_bytes (x ∷ xs) (y ∷ ys) = eqb x y && same_bytes xs ys

-- the list with b in the place of as many bytes from s on [V8]
unfoldable pub splice : List ℕ → ℕ → List ℕ → List ℕ
splice xs s b = take s xs ++ (b ++ drop (s + length b) xs)

-- all of b fits into the list from `at` on [V9]
unfoldable pub put_fits : List ℕ → ℕ → List ℕ → Bool
put_fits xs at b = leb (at + length b) (length xs)

-- the list with b stored from `at` on, where all of b fits; else the list as it was [V9]
unfoldable pub put : List ℕ → ℕ → List ℕ → List ℕ
put xs at b = if_else (put_fits xs at b) (sets xs at b) xs

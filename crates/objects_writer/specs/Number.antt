-- Numbers as bytes, the highest first.
use Rattle.std.specs.Prelude.{ℕ, zero, suc, ◌+◌, ◌*◌, ◌/◌, ◌%◌, List, [], ◌∷◌, ◌++◌, ltb}
use Rattle.base.specs.Choice.{if_else}

-- the number that bytes are, behind those that make acc [V7]
abbrev pub big_from : ℕ → List ℕ → ℕ
big_from acc [] = acc
big_from acc (b ∷ l) = big_from (acc * 256 + b) l

-- the number that bytes are [V7]
unfoldable pub big : List ℕ → ℕ
big l = big_from 0 l

-- the k low bytes of n [V7] [D7]
abbrev pub digits : ℕ → ℕ → List ℕ
digits zero n = []
digits (suc k) n = digits k (n / 256) ++ (n % 256 ∷ [])

-- how many bytes n takes: one, and one more for each time that it is still 256 or more; k bounds how often [D7]
unfoldable pub bytes_in : ℕ → ℕ → ℕ
bytes_in zero n = 1
bytes_in (suc k) n = if_else (ltb n 256) 1 (1 + bytes_in k (n / 256))

-- the fewest bytes that hold n, and one at least; right for a number of up to eight bytes [D7]
unfoldable pub bytes_of : ℕ → ℕ
bytes_of n = bytes_in 7 n

-- n in the fewest bytes [D7]
unfoldable pub shortest : ℕ → List ℕ
shortest n = digits (bytes_of n) n

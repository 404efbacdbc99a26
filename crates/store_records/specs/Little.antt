-- Little-endian numbers in a list of bytes.
use Rattle.std.specs.Prelude.{ℕ, ◌+◌, ◌*◌, ◌/◌, ◌%◌, List, [], ◌∷◌, get_or}

-- the 2-byte number at i [V6]
unfoldable pub le16 : List ℕ → ℕ → ℕ
le16 xs i = get_or xs i 0 + 256 * get_or xs (i + 1) 0

-- the 4-byte number at i [V6]
unfoldable pub le32 : List ℕ → ℕ → ℕ
le32 xs i = le16 xs i + 65536 * le16 xs (i + 2)

-- n in two bytes [V6]
unfoldable pub bytes16 : ℕ → List ℕ
bytes16 n = n % 256 ∷ n / 256 % 256 ∷ []

-- n in four bytes [V6]
unfoldable pub bytes32 : ℕ → List ℕ
bytes32 n = n % 256 ∷ n / 256 % 256 ∷ n / 65536 % 256 ∷ n / 16777216 % 256 ∷ []

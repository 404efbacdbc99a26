-- Not to be believed: only contracts of private functions and proofs cite this.
use Rattle.std.specs.Prelude.{ℕ, ◌+◌, ◌*◌, length}
use Rattle.objects_writer.specs.Writing.{length_bytes}

-- the bytes behind the reply's own tag and length: the reference with its tag and length, and three bytes for each number
abbrev pub inner_length : ℕ → ℕ → ℕ
inner_length file n = 2 + file + 3 * n

-- how long the reply is, by sizes alone: so it is known before a byte is written
unfoldable pub found_length : ℕ → ℕ → ℕ
found_length file n = 2 + length (length_bytes (inner_length file n)) + inner_length file n

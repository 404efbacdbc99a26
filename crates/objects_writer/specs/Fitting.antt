-- How long a value can be whose object keeps within a limit.
use Rattle.std.specs.Prelude.{ℕ, zero, suc, ◌+◌, length, leb}
use Rattle.base.specs.Choice.{if_else}
use Rattle.objects_writer.specs.Writing.{length_bytes}

-- how long an object is whose tag has one byte and whose value has n; right up to 65,535, the most that a length says [D1] [D2]
unfoldable pub object_length : ℕ → ℕ
object_length n = 1 + length (length_bytes n) + n

-- the greatest number of bytes, `most` or fewer, that a value can have whose object has at most `limit`; 0 where none can [D12]
unfoldable pub longest_within : (limit most : ℕ) → ℕ
longest_within limit zero = zero
longest_within limit (suc n) = if_else (leb (object_length (suc n)) limit) (suc n) (longest_within limit n)

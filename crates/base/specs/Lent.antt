-- A part of a slice that is lent, as a function returns it: that very memory, and not a copy.
use Rattle.std.specs.Prelude.{ℕ, ◌+◌, ◌≡◌, Bool, List, length, leb}
use Rattle.std.specs.Borrow.{Bor}
use Rattle.base.specs.Choice.{if_else}
use Rattle.base.specs.Bytes.{part}

-- r is the part of s that has n bytes from a on. A pointer is a block of memory and an offset in it [V11]
pub record PartOf (s : Bor (List ℕ)) (a n : ℕ) (r : Bor (List ℕ)) : Type 0 where
  pub block : r.ref_ptr.0 ≡ s.ref_ptr.0
  pub offset : r.ref_ptr.1 ≡ s.ref_ptr.1 + a
  pub bytes : r.now ≡ part s.now a n

-- the n bytes from a on are all there [V11]
unfoldable pub whole_fits : List ℕ → ℕ → ℕ → Bool
whole_fits xs a n = leb (a + n) (length xs)

-- r is that part of s; where not all of them are there, r is the empty part at its start [V11]
abbrev pub WholePart : Bor (List ℕ) → ℕ → ℕ → Bor (List ℕ) → Type 0
WholePart s a n r = PartOf s (if_else (whole_fits s.now a n) a 0) (if_else (whole_fits s.now a n) n 0) r

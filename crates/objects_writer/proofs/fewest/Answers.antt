-- The byte count from leading zeros, with zero special.
use native.Mathlib.Omega.{arith}
use native.Mathlib.Nat.{pos_of_ne-zero}
use lib.Count.{leading_le}
use Rattle.objects_writer.specs.Number.{bytes_in, bytes_of}
use Rattle.objects_writer.proofs.Numbers.{bytes_of_leading}
use Rattle.objects_writer.proofs.fewest.Goals as goal

pub returns-then-n-eq0 : goal.returns-then-n-eq0
unfolding bytes_of bytes_in
returns-then-n-eq0 c = simp c.if-n-eq0.true

pub overflow_sub-result : goal.overflow_sub-result
overflow_sub-result c = omega (arith, leading_le 64 c.args.n)

pub returns : goal.returns
returns c = omega (arith, bytes_of_leading c.args.n (pos_of_ne-zero c.if-n-eq0.false) c.ranges.n.fits)

-- Tag, length and digits are stored where all of them fit.
use mathlib.Core.Path.{◌∙◌}
use native.Mathlib.Omega.{arith}
use lib.ListN.{length-set}
use Rattle.objects_writer.proofs.Numbers.{bytes_of_most}
use Rattle.objects_writer.proofs.Writings.{put-number-refused, put-number_accepted}
use Rattle.objects_writer.proofs.put_number.Goals as goal

pub returns-then-out-at : goal.returns-then-out-at
returns-then-out-at c = put-number-refused _ _ _ _ _ c.ranges.tag.fits c.fewest-k.ensures (omega arith)

pub overflow_add-k : goal.overflow_add-k
overflow_add-k c = omega (arith, c.fewest-k.ensures, bytes_of_most c.args.n)

pub returns-then-out-at-2 : goal.returns-then-out-at-2
returns-then-out-at-2 c = put-number-refused _ _ _ _ _ c.ranges.tag.fits c.fewest-k.ensures (omega arith)

pub overflow_cast-out : goal.overflow_cast-out
overflow_cast-out c = omega (arith, c.fewest-k.ensures, bytes_of_most c.args.n)

pub bounds-out-at-2 : goal.bounds-out-at-2
bounds-out-at-2 c = simp length-set (omega arith)

pub put_digits-requires : goal.put_digits-requires
put_digits-requires c = simp length-set (omega arith)

pub shape_of-out : goal.shape_of-out
shape_of-out c = c.put_digits.auto.out ∙ simp length-set

pub returns : goal.returns
returns c =
    put-number_accepted _ _ _ _ _ c.ranges.tag.fits c.fewest-k.ensures _ (omega arith) c.put_digits.ensures

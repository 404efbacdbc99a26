-- Two bytes and the number's, or none.
use native.Mathlib.Omega.{arith}
use Rattle.objects_writer.proofs.Numbers.{bytes_of_most}
use Rattle.machine_reply_fmm.proofs.Reporting.{asked-length, asked-none}
use Rattle.machine_reply_fmm.proofs.asked_length.Goals as goal

pub overflow_add-result : goal.overflow_add-result
overflow_add-result c = omega (arith, c.fewest.ensures, bytes_of_most c.args.n)

pub returns-then-bit-eq1 : goal.returns-then-bit-eq1
returns-then-bit-eq1 c = asked-length _ _ _ _ c.if-bit-eq1.true c.ranges.tag.fits c.fewest.ensures

pub returns : goal.returns
returns c = asked-none _ _ _ c.if-bit-eq1.false

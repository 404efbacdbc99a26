use native.Mathlib.Omega.{arith}
use mathlib.Core.Path.{refl}
use lib.Dec.{lit<}
use Rattle.objects_writer.specs.Number.{big}
use Rattle.objects_reader.proofs.NumberRead.{small, eight, more_bits, big_more, number_in_end}
use Rattle.objects_reader.proofs.number.number.Goals as goal

pub loop-b-init : goal.loop-b-init
unfolding big
loop-b-init c = (refl, lit< tt)

pub overflow_mul-n : goal.overflow_mul-n
overflow_mul-n c =
    let l = c.loop-b in
    omega (arith, small l.b-index l.n (omega (arith, eight _ _ c.part-b-items.ensures)) l.invariant.1)

pub loop-b-preserved : goal.loop-b-preserved
loop-b-preserved c =
    let l = c.loop-b in
    (big_more _ l.n l.b-index c.loop-b-test.true l.invariant.0, more_bits l.b-index l.n _ l.invariant.1 (c.type_inv.b-items l.b-index).fits)

pub returns : goal.returns
returns c = number_in_end _ _ c.part-b-items.ensures _ _ c.loop-b.invariant.0 c.loop-b-test.false

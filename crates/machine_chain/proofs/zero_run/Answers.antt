use mathlib.Core.Path.{ap, ◌∙◌}
use Prim.Native.Nat.{◌+◌, ◌-◌}
use native.Mathlib.Omega.{arith}
use lib.Bits.{bit_or}
use lib.Dec.{eqb}
use lib.ListN.{length-take, length-drop}
use Rattle.base.proofs.Parts.{get_d_part}
use Rattle.machine_chain.proofs.Unused.{zeros_more}
use Rattle.machine_chain.proofs.zero_run.Goals as goal

pub loop-b-preserved : goal.loop-b-preserved
loop-b-preserved c =
    let s = c.args.chain.now in
    let test = simp (length-take, length-drop) at c.loop-b-test.true in
    let item = get_d_part s c.args.a (c.args.a + c.args.n - c.args.a) c.loop-b.b-index (omega arith) in
    ap (λ m. eqb m 0) (ap (bit_or c.loop-b.bits) item) ∙ zeros_more s c.args.a _ _ c.loop-b.invariant

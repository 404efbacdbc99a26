-- `longest_within` meets its contract: by the form of the length, what it answers fits, and a byte more does not.
use Prim.Native.Nat.{ℕ, suc, ◌-◌}
use mathlib.Core.Path.{◌∙◌}
use native.Mathlib.Omega.{arith}
use Rattle.objects_writer.proofs.Fitting.{object_length-is, longest_within-is}
use Rattle.objects_writer.proofs.longest_within.Goals as goal

pub returns-then-n-lt131 : goal.returns-then-n-lt131
returns-then-n-lt131 c =
    let a = c.args in
    let k : ℕ = c.min.result in
    c.min-then-n-lt131.ensures ∙ longest_within-is a.limit k a.most (λ p. omega (arith, object_length-is k)) (omega (arith, object_length-is (suc k)))

pub returns-then-n-lt260 : goal.returns-then-n-lt260
returns-then-n-lt260 c =
    let a = c.args in
    let k : ℕ = c.min-then-n-lt260.result in
    c.min-then-n-lt260-2.ensures ∙ longest_within-is a.limit k a.most (λ p. omega (arith, object_length-is k)) (omega (arith, object_length-is (suc k)))

pub returns : goal.returns
returns c =
    let a = c.args in
    let k : ℕ = c.args.limit - 4 in
    c.min-2.ensures ∙ longest_within-is a.limit k a.most (λ p. omega (arith, object_length-is k)) (omega (arith, object_length-is (suc k)))

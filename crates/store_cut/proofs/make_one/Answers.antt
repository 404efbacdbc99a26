-- `store_cut::make_one` meets its contract.
use mathlib.Core.Path.{refl}
use native.Mathlib.Omega.{arith}
use Rattle.store_cut.proofs.Making.{make-one, make_none}
use Rattle.store_cut.proofs.make_one.Goals as goal

pub returns-then-k-eq0 : goal.returns-then-k-eq0
returns-then-k-eq0 c = (omega arith, make_none _ _ c.args.k (omega arith))

pub returns : goal.returns
returns c = (refl, make-one _ _ _ c.args.k (λ e. omega (arith, e)))

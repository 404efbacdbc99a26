-- `store_certificates::stretch_of` meets its contract: the record's length stands at its place, and its bytes behind that.
use mathlib.Core.Path.{refl}
use native.Mathlib.Omega.{arith}
use Rattle.store_certificates.proofs.Locating.{stretch_of-is}
use Rattle.store_certificates.proofs.stretch_of.Goals as goal

pub overflow_add-result : goal.overflow_add-result
overflow_add-result c =
    omega (arith, (stretch_of-is c.args.body.now c.args.n c.place-at.result _ c.requires.0 c.requires.1 c.place-at.ensures refl).0)

pub returns : goal.returns
returns c =
    (stretch_of-is c.args.body.now c.args.n _ _ c.requires.0 c.requires.1 c.place-at.ensures c.read16.ensures.0).1

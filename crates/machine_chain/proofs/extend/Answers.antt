-- `machine_chain::extend` meets its contract.
use Rattle.machine_chain.proofs.Reading.{extend-is}
use mathlib.Core.Path.{refl}
use Rattle.machine_chain.proofs.extend.Goals as goal

pub returns : goal.returns
returns c = extend-is _ _ _ c.read16-n.ensures.0 refl c.put.ensures.1 (rw c.to_le_bytes.ensures at c.put-2.ensures.1)

-- `machine_cut::obey` meets its contract.
use Rattle.machine_cut.proofs.Cutting.{cut-whole}
use lib.ListN.{replicate, length-replicate}
use Prim.Native.Nat.{ℕ}
use Rattle.machine_cut.proofs.obey.Goals as goal

pub returns : goal.returns
returns c = cut-whole _ _ _ _ _ _ c.requires (replicate {A = ℕ} 1029 0) (length-replicate {A = ℕ} 1029 0) c.part.ensures c.put.ensures.1 c.join.ensures c.joined-data.ensures c.stored-t.ensures c.make.ensures

-- `machine::obey` meets its contract.
use Rattle.machine.proofs.Accepting.{slice_bytes, obey_allowed, obey_done, obey_ended}
use Rattle.machine.proofs.obey.Goals as goal

pub answer-a-requires : goal.answer-a-requires
answer-a-requires c = obey_allowed _ _ _ _ _ _ c.requires c.join.ensures c.joined-data.ensures c.by_class-d.ensures (slice_bytes _ (λ i. (c.type_inv.data i).fits))

pub returns : goal.returns
returns c = (obey_done _ _ _ _ _ _ c.requires c.join.ensures c.joined-data.ensures _ c.by_class-d.ensures c.answer-a.ensures, obey_ended _ c.args.s _ _ _ _ c.requires c.join.ensures c.end.ensures)

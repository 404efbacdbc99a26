-- `machine::read_record` meets its contract.
use native.Mathlib.Omega.{arith}
use mathlib.Core.Path.{refl}
use Rattle.store_records.specs.Body.{records}
use Rattle.machine_reply_record.proofs.Joining.{records_bound}
use Rattle.machine.specs.Effects.{done}
use Rattle.machine.proofs.Saying.{said, stored-records}
use Rattle.machine.proofs.Reaching.{records-listed}
use Rattle.machine.proofs.read_record.Goals as goal

pub overflow_cast-n : goal.overflow_cast-n
overflow_cast-n c = let a = c.args in let rs = records c.body.result.now in let m = records_bound rs a.a a.b in let e = stored-records a.response.now rs rs a.a a.b refl c.requires.1 c.put_records-n.ensures in omega (arith, e.0, m)

pub returns : goal.returns
unfolding done
returns c = let a = c.args in let p = c.requires in let e = records-listed _ a.r p.0 p.2.0 c.body.ensures in said 0x9000 _ _ _ _ (records_bound _ a.a a.b) p.1 c.set_file.ensures (stored-records a.response.now _ _ a.a a.b e p.1 c.put_records-n.ensures) c.status_behind.ensures

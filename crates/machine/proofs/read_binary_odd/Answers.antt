-- `machine::read_binary_odd` meets its contract.
use native.Mathlib.Omega.{arith}
use Rattle.store_files.specs.Files.{file_bytes}
use Rattle.machine.specs.Effects.{done}
use Rattle.machine.proofs.Saying.{said, object_short, stored_object, object_end}
use Rattle.machine.proofs.read_binary_odd.Goals as goal

pub overflow_add-at : goal.overflow_add-at
overflow_add-at c = let a = c.args in let p = c.requires in omega (arith, object_end a.response.now (file_bytes a.image.now a.t) a.o a.n 0x53 (omega arith) p.1.0 p.1.1 p.0 c.put_head-at.ensures c.put_bytes.ensures.1)

pub overflow_cast-at : goal.overflow_cast-at
overflow_cast-at c = let a = c.args in let p = c.requires in omega (arith, object_end a.response.now (file_bytes a.image.now a.t) a.o a.n 0x53 (omega arith) p.1.0 p.1.1 p.0 c.put_head-at.ensures c.put_bytes.ensures.1)

pub returns : goal.returns
unfolding done
returns c = let a = c.args in let p = c.requires in said 0x9000 _ _ _ a.response.now (object_short a.response.now (file_bytes a.image.now a.t) a.o a.n 0x53 (omega arith) p.1.0 p.1.1 p.0) p.0 c.set_file.ensures (stored_object a.response.now (file_bytes a.image.now a.t) a.o a.n 0x53 (omega arith) p.1.0 p.1.1 p.0 c.put_head-at.ensures c.put_bytes.ensures.1) c.status_behind.ensures

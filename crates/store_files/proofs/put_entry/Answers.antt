-- `store_files::put_entry` meets its contract.
use native.Mathlib.Omega.{arith}
use Rattle.base.proofs.Cases.{flag_accepted}
use Rattle.store_files.proofs.Entries.{entry-some}
use Rattle.store_files.proofs.put_entry.Goals as goal

pub returns : goal.returns
returns c = entry-some _ _ _ _ _ _ (flag_accepted c.present.ensures c.if-not-present.false-raw) (omega arith) c.entry.ensures c.put.ensures.1

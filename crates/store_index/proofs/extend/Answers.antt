-- `store_index::extend` meets its contract.
use native.Mathlib.Omega.{arith}
use Rattle.base.proofs.Cases.{flag_accepted}
use Rattle.store_index.proofs.Places.{place_read}
use Rattle.store_index.proofs.extend.Goals as goal

pub overflow_cast-places : goal.overflow_cast-places
overflow_cast-places c =
    let a = c.args in
    omega (arith, place_read a.kind a.body.now _ c.place.result (flag_accepted c.record_file_ok.ensures c.if-not-record_file_ok.false-raw) (omega arith) c.place.ensures)

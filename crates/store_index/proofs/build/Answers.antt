-- `store_index::build` meets its contract.
use native.Mathlib.Omega.{arith}
use Rattle.base.proofs.Cases.{flag_accepted}
use Rattle.store_index.proofs.Places.{stands}
use Rattle.store_index.proofs.build.Goals as goal

pub fill-requires : goal.fill-requires
fill-requires c =
    let a = c.args in
    let s = stands a.kind a.body.now c.count-n.result (flag_accepted c.record_file_ok.ensures c.if-not-record_file_ok.false-raw) (omega arith) in
    (s.within, s.small, omega arith)

-- `machine_chain::zero_run` meets its contract. Invariant: the bits so far are none exactly where all bytes are zero.
use mathlib.Core.Path.{◌≡◌}
use lib.Dec.{eqb}
use Rattle.machine_chain.specs.Layout.{zero_run}
use Rattle.machine_chain.proofs.zero_run.Given as goal

abbrev pub invariant-loop-b : goal.invariant-loop-b
invariant-loop-b l = eqb l.bits 0 ≡ zero_run l.chain l.a l.b-index

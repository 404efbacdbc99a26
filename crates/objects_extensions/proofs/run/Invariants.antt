-- `run` goes along the extensions. Invariant (`Walking`): the run gives what its rest gives, put into the bytes so far. Measure: the bytes left.
use Prim.Native.Nat.{◌≤◌}
use mathlib.Core.Path.{◌≡◌}
use lib.ListN.{length}
use Rattle.objects_extensions.proofs.Steps.{Walking}
use Rattle.objects_extensions.proofs.run.Given as goal

abbrev pub invariant-loop-rest : goal.invariant-loop-rest
invariant-loop-rest l = (length l.c ≡ length l.initial.c) × (length l.rest ≤ length l.s) × Walking l.initial.c l.s l.c l.rest

abbrev pub decreases-loop-rest : goal.decreases-loop-rest
decreases-loop-rest l = length l.rest

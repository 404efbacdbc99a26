-- What was read lies within the room. Measure: the room that is left.
use Rattle.std.proofs.Common.{◌-◌, ◌≤◌, length}
use Rattle.program_console.proofs.read_full.Given as goal

abbrev pub invariant-loop-have : goal.invariant-loop-have
invariant-loop-have l = l.have ≤ length l.out

abbrev pub decreases-loop-have : goal.decreases-loop-have
decreases-loop-have l = length l.initial.out - l.have

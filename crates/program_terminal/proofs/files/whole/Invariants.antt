-- `files::whole` meets its contract, which says nothing. Invariant: what is read lies within out, which is as long as it was. Each turn reads a
-- byte at least. Measure: the room that is left.
use Rattle.std.proofs.Common.{◌-◌, ◌≤◌, ◌≡◌, length}
use Rattle.program_terminal.proofs.files.whole.Given as goal

abbrev pub invariant-loop-have : goal.invariant-loop-have
invariant-loop-have l = (l.have ≤ length l.out) × (length l.out ≡ length l.initial.out)

abbrev pub decreases-loop-have : goal.decreases-loop-have
decreases-loop-have l = length l.initial.out - l.have

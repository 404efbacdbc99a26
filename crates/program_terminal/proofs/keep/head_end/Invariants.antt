-- `keep::head_end` meets its contract, which says nothing. Each section has a head of 6 bytes. Measure: the longest image's bytes from `at` on.
use Rattle.std.proofs.Common.{◌-◌}
use Rattle.program_terminal.proofs.keep.head_end.Given as goal

abbrev pub decreases-loop-at : goal.decreases-loop-at
decreases-loop-at l = 262144 - l.at

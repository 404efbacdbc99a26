-- Each case goes on: `next` says so. Measure: the bytes from `at` on.
use Rattle.std.proofs.Common.{length, ◌-◌}
use Rattle.program_console.proofs.cases.answer_or_warn.Given as goal

abbrev pub decreases-loop-at : goal.decreases-loop-at
decreases-loop-at g l = length l.s - l.at

-- The last digit is stored first. Invariant: with the i digits of `rest` stored in front of those that stand, the run is the one that the
-- contract asks for.
use mathlib.Core.Path.{◌≡◌}
use lib.Seq.{sets}
use Rattle.objects_writer.specs.Number.{digits}
use Rattle.objects_writer.proofs.put_digits.Given as goal

abbrev pub invariant-loop-i : goal.invariant-loop-i
invariant-loop-i l = sets l.out l.at (digits l.i l.rest) ≡ sets l.initial.out l.at (digits l.k l.n)

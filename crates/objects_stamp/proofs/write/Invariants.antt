-- `write` goes along the places. Invariant: the numbers of those passed are written.
use mathlib.Core.Path.{◌≡◌}
use lib.Seq.{sets}
use Rattle.objects_reader.specs.Places.{place_pairs}
use Rattle.objects_stamp.proofs.write.Given as goal

abbrev pub invariant-loop-i : goal.invariant-loop-i
invariant-loop-i l = l.places ≡ sets l.initial.places 0 (place_pairs l.r.places l.i)

-- `tell` goes along the places. Invariant: the places left decide.
use mathlib.Core.Path.{◌≡◌}
use Prim.Native.Nat.{◌-◌}
use Rattle.objects_stamp.specs.Rules.{content_ok}
use Rattle.objects_stamp.specs.Loops.{tells}
use Rattle.objects_stamp.proofs.tell.Given as goal

abbrev pub invariant-loop-k : goal.invariant-loop-k
invariant-loop-k l = tells (content_ok l.s) l.r 13 0 ≡ tells (content_ok l.s) l.r (13 - l.k) l.k

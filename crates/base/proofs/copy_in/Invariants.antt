-- `base::copy_in` meets its contract. Invariant: the bytes of src passed are stored in dst from `at` on. A turn stores one byte more
-- (`sets-turn`); at the end all are stored.
use mathlib.Core.Path.{◌≡◌}
use lib.ListN.{take}
use lib.Seq.{sets}
use Rattle.base.proofs.copy_in.Given as goal

abbrev pub invariant-loop-i : goal.invariant-loop-i
invariant-loop-i l = l.dst ≡ sets l.initial.dst l.at (take l.i l.src)

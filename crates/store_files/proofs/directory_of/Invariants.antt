-- `store_files::directory_of` meets its contract. Invariant: the bytes begin with the entries of eMRTD and of the applications before the one
-- at hand, and `at` is where they end. One more entry is stored behind them (`dir-turn`).
use Prim.Native.Nat.{◌-◌}
use mathlib.Core.Path.{◌≡◌}
use lib.ListN.{length}
use lib.Seq.{sets}
use Rattle.store_files.specs.Master.{entries}
use Rattle.store_files.proofs.Entries.{empty}
use Rattle.store_files.proofs.directory_of.Given as goal

abbrev pub invariant-loop-application : goal.invariant-loop-application
invariant-loop-application l =
    (l.bytes ≡ sets empty 0 (entries l.image (l.application - 1))) × (l.at ≡ length (entries l.image (l.application - 1))) × (length l.bytes ≡ 44)

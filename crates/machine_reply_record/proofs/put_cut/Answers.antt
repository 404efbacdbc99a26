-- The part up to the cut is stored: there is room for it.
use mathlib.Core.Path.{ap, ◌∙◌}
use native.Mathlib.Omega.{arith}
use Prim.Native.Nat.{ℕ, ◌+◌}
use mathlib.Core.List.{List}
use lib.ListN.{length, length-take}
use lib.Seq.{sets}
use Rattle.base.proofs.Runs.{put_accepted}
use Rattle.machine_reply_record.proofs.put_cut.Goals as goal

pub returns : goal.returns
returns c =
    let p = c.part-piece.ensures in
    let s = c.put.ensures.1 in
    let a = c.args in
    (ap (λ (l : List ℕ). a.len + length l) p, s ∙ put_accepted _ _ _ (rw p (simp length-take (omega arith))) ∙ ap (sets _ _) p)

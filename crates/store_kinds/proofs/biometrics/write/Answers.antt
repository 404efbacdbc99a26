-- `store_kinds::biometrics::write` meets its contract.
use Prim.Native.Nat.{◌+◌, ◌≤◌}
use mathlib.Core.Path.{ap, ◌∙◌}
use native.Mathlib.Omega.{arith}
use lib.ListN.{length}
use Rattle.base.specs.Bytes.{put}
use Rattle.store_kinds.proofs.Updating.{inside, updatable_small, updated_by}
use Rattle.store_kinds.proofs.biometrics.write.Goals as goal
use Rattle.store_kinds.proofs.biometrics.write.Goals.{Start}

fits : (c : Start) → 5 + c.args.offset + length c.args.«data».now ≤ length c.args.body.now
fits c = inside _ _ c.args.«data».now c.requires.0

pub overflow_add-offset : goal.overflow_add-offset
overflow_add-offset c = omega (arith, fits (goal.at.overflow_add-offset c).Start)

pub overflow_add-offset-2 : goal.overflow_add-offset-2
overflow_add-offset-2 c = omega (arith, fits (goal.at.overflow_add-offset-2 c).Start)

pub overflow_cast-n : goal.overflow_cast-n
overflow_cast-n c = let s = updatable_small _ _ _ c.requires.0 in omega (arith, s.0, s.1)

pub returns : goal.returns
returns c =
    updated_by _ _ _ c.requires.0 _ _ _ _ c.requires.1 c.max-n.ensures c.put.ensures.1
    (c.put-2.ensures.1 ∙ ap (put _ 1) c.to_le_bytes.ensures)

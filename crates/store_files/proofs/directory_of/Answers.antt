use Prim.Native.Nat.{◌-◌}
use mathlib.Core.Path.{refl, ◌∙◌}
use native.Mathlib.Omega.{arith}
use Rattle.store_files.specs.Master.{entries, entry, aid, aid_prefix}
use Rattle.store_files.proofs.Entries.{entries-length, dir-start, dir-turn, dir_end}
use Rattle.store_files.proofs.directory_of.Goals as goal

pub loop-application-init : goal.loop-application-init
unfolding entries entry aid aid_prefix
loop-application-init c = (dir-start c.args.image.now _ _ c.entry.ensures c.put.ensures.1, refl, c.put.auto.dst)

pub put_entry-at-requires : goal.put_entry-at-requires
put_entry-at-requires c = let l = entries-length c.args.image.now (c.loop-application.application - 1) in (omega arith, omega arith)

pub loop-application-preserved : goal.loop-application-preserved
loop-application-preserved c =
    let i = c.loop-application.invariant in
    let e = c.put_entry-at.ensures in
    let t = dir-turn _ _ _ _ _ _ _ _ (omega arith) (omega arith) i.0 i.1 e.0 e.1 in
    (t.0, t.1, c.put_entry-at.auto.out ∙ i.2)

pub returns : goal.returns
returns c = dir_end _ _ _ _ (omega arith) (omega arith) c.loop-application.invariant.0 c.loop-application.invariant.1

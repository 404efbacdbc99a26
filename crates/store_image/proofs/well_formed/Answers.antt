use Prim.Native.Nat.{ℕ, ◌≤◌}
use mathlib.Core.Path.{◌≡◌}
use mathlib.Core.Bool.{true}
use mathlib.Core.List.{List}
use native.Mathlib.Omega.{arith}
use lib.ListN.{length}
use Rattle.base.proofs.Cases.{flag_refused, flag_accepted}
use Rattle.store_image.specs.Image.{section_ok, end_at}
use Rattle.store_image.proofs.Sections.{walk_start, walk_end, walk_refused, walk_next, section_ok_facts}
use Rattle.store_image.proofs.well_formed.Goals as goal
use Rattle.store_image.proofs.well_formed.Goals.{Else-not-section_ok}

-- the section at `at` is right, and so whole
abbrev I : Else-not-section_ok → List ℕ
I c = c.args.image.now

was-ok : (c : Else-not-section_ok) → section_ok (I c) c.loop-at.at c.loop-at.last ≡ true
was-ok c = flag_accepted c.section_ok.ensures c.if-not-section_ok.false-raw

whole : (c : Else-not-section_ok) → end_at (I c) c.loop-at.at ≤ length (I c)
whole c = (section_ok_facts _ _ _ (was-ok c)).whole

pub loop-at-init : goal.loop-at-init
loop-at-init c = (walk_start _ c.if-image-gt262144.false, omega arith)

pub returns-then-not-section_ok : goal.returns-then-not-section_ok
returns-then-not-section_ok c = walk_refused _ _ _ c.loop-at.invariant.0 c.loop-at-test.true (flag_refused c.section_ok.ensures c.if-not-section_ok.true-raw)

pub loop-at-preserved : goal.loop-at-preserved
loop-at-preserved c = (walk_next _ _ _ c.loop-at.invariant.0 c.loop-at-test.true _ _ c.read32.ensures.0 c.read16-last.ensures.0 (was-ok (goal.at.loop-at-preserved c).Else-not-section_ok), omega (arith, whole (goal.at.loop-at-preserved c).Else-not-section_ok))

pub returns : goal.returns
returns c = walk_end _ _ _ c.loop-at.invariant.0 c.loop-at-test.false

use native.Mathlib.Omega.{arith}
use Rattle.store_image.proofs.Sections.{seek_start, seek_none, seek_hit, seek_next}
use Rattle.store_image.proofs.find.Goals as goal

pub loop-at-init : goal.loop-at-init
loop-at-init c = (seek_start _ _, omega arith)

pub returns-then-image-at : goal.returns-then-image-at
returns-then-image-at c = seek_none _ _ _ c.loop-at.invariant.0 (omega arith)

pub returns-then-read16-kind : goal.returns-then-read16-kind
returns-then-read16-kind c = seek_hit _ _ _ c.loop-at.invariant.0 _ _ c.read32-len.ensures.0 c.read16.ensures.0 (omega arith) c.if-read16-kind.true

pub loop-at-preserved : goal.loop-at-preserved
loop-at-preserved c = (seek_next _ _ _ c.loop-at.invariant.0 _ _ c.read32-len.ensures.0 c.read16.ensures.0 (omega arith) c.if-read16-kind.false, omega arith)

pub returns : goal.returns
returns c = seek_none _ _ _ c.loop-at.invariant.0 (omega arith)

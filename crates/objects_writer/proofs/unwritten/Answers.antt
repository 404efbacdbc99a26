-- One byte of a tag below 256 is not written.
use native.Mathlib.Omega.{arith}
use borrow.Author.Tests.{lt-ltb, le-ltb}
use Rattle.objects_writer.proofs.unwritten.Goals as goal

pub returns-then-tag-lt256 : goal.returns-then-tag-lt256
returns-then-tag-lt256 c = simp (lt-ltb _ _ c.if-tag-lt256.true) (omega arith)

pub returns : goal.returns
returns c = simp (le-ltb _ _ c.if-tag-lt256.false) (omega arith)

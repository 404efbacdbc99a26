-- Every public function of this crate has one outcome: its contract leaves nothing open, and no entry of the list. Read before:
-- specs/Determined.antt of base.
use mathlib.Core.Path.{sym, ◌∙◌}
use Rattle.base.specs.Determined.{Determined}
use Rattle.objects_stamp.proofs.chars.allows_all.Kinds as allows-all-kinds
use Rattle.objects_stamp.proofs.chars.allows_all.Reads as allows-all-reads
use Rattle.objects_stamp.proofs.read_stamp.Kinds as read-stamp-kinds
use Rattle.objects_stamp.proofs.read_stamp.Reads as read-stamp-reads

pub allows_all_determined : Determined allows-all-kinds.ps allows-all-kinds.r allows-all-reads.Post
allows_all_determined κs a e f p q i = ((p ∙ sym q) i, e.1)

pub read_stamp_determined : Determined read-stamp-kinds.ps read-stamp-kinds.r read-stamp-reads.Post
read_stamp_determined κs a e f p q i = ((p.0 ∙ sym q.0) i, (tt, ((p.1 ∙ sym q.1) i, tt)))

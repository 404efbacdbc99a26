-- The public function of this crate has one outcome: its contract leaves nothing open, and no byte of the buffer. Read before:
-- specs/Determined.antt of base.
use mathlib.Core.Path.{sym, ◌∙◌}
use Rattle.base.specs.Determined.{Determined}
use Rattle.objects_extensions.proofs.read_rights.Kinds as read-rights-kinds
use Rattle.objects_extensions.proofs.read_rights.Reads as read-rights-reads

pub read-rights_determined : Determined read-rights-kinds.ps read-rights-kinds.r read-rights-reads.Post
read-rights_determined κs a e f p q i = ((p.0 ∙ sym q.0) i, (tt, (tt, (tt, ((p.1 ∙ sym q.1) i, tt)))))

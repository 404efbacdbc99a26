-- Every public function of this crate has one outcome: its contract leaves nothing open. Read before: specs/Determined.antt.
use mathlib.Core.Path.{refl, sym, ◌∙◌}
use Rattle.base.specs.Determined.{Determined, DeterminedPart, DeterminedAddress}
use Rattle.base.proofs.Lending.{part_of_same}
use Rattle.base.proofs.byte.Kinds as byte-kinds
use Rattle.base.proofs.byte.Reads as byte-Reads
use Rattle.base.proofs.part.Kinds as part-kinds
use Rattle.base.proofs.part.Reads as part-reads
use Rattle.base.proofs.whole_part.Kinds as whole-part-kinds
use Rattle.base.proofs.whole_part.Reads as whole-part-reads
use Rattle.base.proofs.same_bytes.Kinds as same-bytes-kinds
use Rattle.base.proofs.same_bytes.Reads as same-bytes-reads
use Rattle.base.proofs.put.Kinds as put-kinds
use Rattle.base.proofs.put.Reads as put_reads
use Rattle.base.proofs.natural.min.Kinds as min-kinds
use Rattle.base.proofs.natural.min.Reads as min-reads
use Rattle.base.proofs.natural.saturating_sub.Kinds as saturating-sub-kinds
use Rattle.base.proofs.natural.saturating_sub.Reads as saturating-sub-reads

pub byte_determined : Determined byte-kinds.ps byte-kinds.r byte-Reads.Post
byte_determined κs a e f p q i = ((p.0 ∙ sym q.0) i, e.1)

pub part_determined : DeterminedPart part-kinds.ps part-reads.Post
part_determined κs a e f p q = (p ∙ sym q, refl)

pub whole-part_determined : DeterminedAddress whole-part-kinds.ps whole-part-reads.Post
whole-part_determined κs a e f p q = let s = part_of_same a.0 _ _ e.0 f.0 p q in (s.0, s.1, refl)

pub same-bytes_determined : Determined same-bytes-kinds.ps same-bytes-kinds.r same-bytes-reads.Post
same-bytes_determined κs a e f p q i = ((p ∙ sym q) i, e.1)

pub put_determined : Determined put-kinds.ps put-kinds.r put_reads.Post
put_determined κs a e f p q i = ((p.0 ∙ sym q.0) i, ((p.1 ∙ sym q.1) i, (tt, (tt, tt))))

pub min_determined : Determined min-kinds.ps min-kinds.r min-reads.Post
min_determined κs a e f p q i = ((p ∙ sym q) i, e.1)

pub saturating_sub_determined : Determined saturating-sub-kinds.ps saturating-sub-kinds.r saturating-sub-reads.Post
saturating_sub_determined κs a e f p q i = ((p ∙ sym q) i, e.1)

-- Every public function of this crate has one outcome: its contract leaves nothing open. Read before: specs/Determined.antt of base.
use mathlib.Core.Path.{sym, ◌∙◌}
use Rattle.base.specs.Determined.{Determined}
use Rattle.objects_writer.proofs.fewest.Kinds as fewest-kinds
use Rattle.objects_writer.proofs.fewest.Reads as fewest-reads
use Rattle.objects_writer.proofs.longest_within.Kinds as longest-within-kinds
use Rattle.objects_writer.proofs.longest_within.Reads as longest-within-reads
use Rattle.objects_writer.proofs.put_head.Kinds as put-head-kinds
use Rattle.objects_writer.proofs.put_head.Reads as put-head-reads
use Rattle.objects_writer.proofs.put_number.Kinds as put-number-kinds
use Rattle.objects_writer.proofs.put_number.Reads as put-number-reads

pub fewest_determined : Determined fewest-kinds.ps fewest-kinds.r fewest-reads.Post
fewest_determined κs a e f p q i = ((p ∙ sym q) i, e.1)

pub longest_within_determined : Determined longest-within-kinds.ps longest-within-kinds.r longest-within-reads.Post
longest_within_determined κs a e f p q i = ((p ∙ sym q) i, e.1)

pub put-head_determined : Determined put-head-kinds.ps put-head-kinds.r put-head-reads.Post
put-head_determined κs a e f p q i = ((p.0 ∙ sym q.0) i, ((p.1 ∙ sym q.1) i, (tt, (tt, (tt, tt)))))

pub put-number_determined : Determined put-number-kinds.ps put-number-kinds.r put-number-reads.Post
put-number_determined κs a e f p q i = ((p.0 ∙ sym q.0) i, ((p.1 ∙ sym q.1) i, (tt, (tt, (tt, tt)))))

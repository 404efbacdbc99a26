-- Every public function of this crate has one outcome: its contract leaves nothing open. Read before: specs/Determined.antt of base.
use mathlib.Core.Path.{sym, ◌∙◌}
use Rattle.base.specs.Determined.{Determined}
use Rattle.machine_reply_record.proofs.put_records.Kinds as put-records-kinds
use Rattle.machine_reply_record.proofs.put_records.Reads as put-records-reads

pub put-records_determined : Determined put-records-kinds.ps put-records-kinds.r put-records-reads.Post
put-records_determined κs a e f p q i = ((p.0 ∙ sym q.0) i, (tt, (tt, (tt, ((p.1 ∙ sym q.1) i, tt)))))

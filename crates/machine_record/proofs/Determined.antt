-- Every public function of this crate has one outcome: its contract leaves nothing open. Read before: specs/Determined.antt of base.
use mathlib.Core.Path.{sym, ◌∙◌}
use Rattle.base.specs.Determined.{Determined}
use Rattle.machine_record.proofs.append_record.append_record.Kinds as append-record-kinds
use Rattle.machine_record.proofs.append_record.append_record.Reads as append-record-reads
use Rattle.machine_record.proofs.read_record.read_record.Kinds as read-record-kinds
use Rattle.machine_record.proofs.read_record.read_record.Reads as read-record-reads
use Rattle.machine_record.proofs.search_record.search_record.Kinds as search-record-kinds
use Rattle.machine_record.proofs.search_record.search_record.Reads as search-record-reads
use Rattle.machine_record.proofs.search_record.search_body.Kinds as search-body-kinds
use Rattle.machine_record.proofs.search_record.search_body.Reads as search-body-reads
use Rattle.machine_record.proofs.read_record.four_or_five.Kinds as four-or-five-kinds
use Rattle.machine_record.proofs.read_record.four_or_five.Reads as four-or-five-reads

pub append_record_determined : Determined append-record-kinds.ps append-record-kinds.r append-record-reads.Post
append_record_determined κs a e f p q i = ((p ∙ sym q) i, e.1)

pub read_record_determined : Determined read-record-kinds.ps read-record-kinds.r read-record-reads.Post
read_record_determined κs a e f p q i = ((p ∙ sym q) i, e.1)

pub search_record_determined : Determined search-record-kinds.ps search-record-kinds.r search-record-reads.Post
search_record_determined κs a e f p q i = ((p ∙ sym q) i, e.1)

pub search_body_determined : Determined search-body-kinds.ps search-body-kinds.r search-body-reads.Post
search_body_determined κs a e f p q i =
    (record { status = (p.0 ∙ sym q.0) i; hits = record { n = (p.1 ∙ sym q.1) i; numbers = (p.2 ∙ sym q.2) i } }, e.1)

pub four_or_five_determined : Determined four-or-five-kinds.ps four-or-five-kinds.r four-or-five-reads.Post
four_or_five_determined κs a e f p q i = ((p ∙ sym q) i, e.1)

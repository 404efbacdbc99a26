-- Every public function of this crate has one outcome: its contract leaves nothing open. Read before: specs/Determined.antt of base.
use mathlib.Core.Path.{sym, ◌∙◌}
use Rattle.base.specs.Determined.{Determined}
use Rattle.objects_reader.proofs.head.length_at.Kinds as length-at-kinds
use Rattle.objects_reader.proofs.head.length_at.Reads as length-at-reads
use Rattle.objects_reader.proofs.head.header.Kinds as header-kinds
use Rattle.objects_reader.proofs.head.header.Reads as header-reads
use Rattle.objects_reader.proofs.number.number.Kinds as number-kinds
use Rattle.objects_reader.proofs.number.number.Reads as number-reads
use Rattle.objects_reader.proofs.reader.read_all.Kinds as read-all-kinds
use Rattle.objects_reader.proofs.reader.read_all.Reads as read-all-reads
use Rattle.objects_reader.proofs.reader.read.Kinds as read-kinds
use Rattle.objects_reader.proofs.reader.read.Reads as read-reads

pub length-at_determined : Determined length-at-kinds.ps length-at-kinds.r length-at-reads.Post
length-at_determined κs a e f p q i = ((p ∙ sym q) i, e.1)

pub header_determined : Determined header-kinds.ps header-kinds.r header-reads.Post
header_determined κs a e f p q i = ((p ∙ sym q) i, e.1)

pub number_determined : Determined number-kinds.ps number-kinds.r number-reads.Post
number_determined κs a e f p q i = ((p ∙ sym q) i, e.1)

pub read_all_determined : Determined read-all-kinds.ps read-all-kinds.r read-all-reads.Post
read_all_determined κs a e f p q i = ((p ∙ sym q) i, e.1)

pub read_determined : Determined read-kinds.ps read-kinds.r read-reads.Post
read_determined κs a e f p q i = ((p ∙ sym q) i, e.1)

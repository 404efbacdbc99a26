-- Every public function of this crate has one outcome: its contract leaves nothing open. Read before: specs/Determined.antt of base.
use mathlib.Core.Path.{sym, ◌∙◌}
use Rattle.base.specs.Determined.{Determined}
use Rattle.store_files.proofs.by_id.Kinds as by-id-kinds
use Rattle.store_files.proofs.by_id.Reads as by-id-reads
use Rattle.store_files.proofs.by_short.Kinds as by-short-kinds
use Rattle.store_files.proofs.by_short.Reads as by-short-reads
use Rattle.store_files.proofs.id_of.Kinds as id-of-kinds
use Rattle.store_files.proofs.id_of.Reads as id-of-reads
use Rattle.store_files.proofs.aid_of.Kinds as aid-of-kinds
use Rattle.store_files.proofs.aid_of.Reads as aid-of-reads
use Rattle.store_files.proofs.size.Kinds as size-kinds
use Rattle.store_files.proofs.size.Reads as size-reads
use Rattle.store_files.proofs.put_bytes.Kinds as put-bytes-kinds
use Rattle.store_files.proofs.put_bytes.Reads as put-bytes-reads

pub by_id_determined : Determined by-id-kinds.ps by-id-kinds.r by-id-reads.Post
by_id_determined κs a e f p q i = ((p ∙ sym q) i, e.1)

pub by_short_determined : Determined by-short-kinds.ps by-short-kinds.r by-short-reads.Post
by_short_determined κs a e f p q i = ((p ∙ sym q) i, e.1)

pub id_of_determined : Determined id-of-kinds.ps id-of-kinds.r id-of-reads.Post
id_of_determined κs a e f p q i = ((p ∙ sym q) i, e.1)

pub aid_of_determined : Determined aid-of-kinds.ps aid-of-kinds.r aid-of-reads.Post
aid_of_determined κs a e f p q i = ((p ∙ sym q) i, e.1)

pub size_determined : Determined size-kinds.ps size-kinds.r size-reads.Post
size_determined κs a e f p q i = ((p ∙ sym q) i, e.1)

pub put-bytes_determined : Determined put-bytes-kinds.ps put-bytes-kinds.r put-bytes-reads.Post
put-bytes_determined κs a e f p q i = ((p.0 ∙ sym q.0) i, (tt, (tt, (tt, (tt, ((p.1 ∙ sym q.1) i, (tt, tt)))))))

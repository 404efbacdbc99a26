-- Every public function of this crate has one outcome: its contract leaves nothing open. Read before: specs/Determined.antt of base.
use mathlib.Core.Path.{refl, sym, ◌∙◌}
use Rattle.base.specs.Determined.{Determined, DeterminedPart}
use Rattle.store_records.proofs.body.count.Kinds as count-kinds
use Rattle.store_records.proofs.body.count.Reads as count-reads
use Rattle.store_records.proofs.body.used.Kinds as used-kinds
use Rattle.store_records.proofs.body.used.Reads as used-reads
use Rattle.store_records.proofs.body.place.Kinds as place-kinds
use Rattle.store_records.proofs.body.place.Reads as place-reads
use Rattle.store_records.proofs.body.record_at.Kinds as record-at-kinds
use Rattle.store_records.proofs.body.record_at.Reads as record-at-reads
use Rattle.store_records.proofs.body.behind.Kinds as behind-kinds
use Rattle.store_records.proofs.body.behind.Reads as behind-reads
use Rattle.store_records.proofs.body.record.Kinds as record-kinds
use Rattle.store_records.proofs.body.record.Reads as record-reads
use Rattle.store_records.proofs.body.fits_behind.Kinds as fits-behind-kinds
use Rattle.store_records.proofs.body.fits_behind.Reads as fits-behind-reads
use Rattle.store_records.proofs.body.append_fits.Kinds as append-fits-kinds
use Rattle.store_records.proofs.body.append_fits.Reads as append-fits-reads
use Rattle.store_records.proofs.body.well_formed.Kinds as well-formed-kinds
use Rattle.store_records.proofs.body.well_formed.Reads as well-formed-reads
use Rattle.store_records.proofs.little.read16.Kinds as read16-kinds
use Rattle.store_records.proofs.little.read16.Reads as read16-reads
use Rattle.store_records.proofs.little.read32.Kinds as read32-kinds
use Rattle.store_records.proofs.little.read32.Reads as read32-reads

pub count_determined : Determined count-kinds.ps count-kinds.r count-reads.Post
count_determined κs a e f p q i = ((p.0 ∙ sym q.0) i, e.1)

pub used_determined : Determined used-kinds.ps used-kinds.r used-reads.Post
used_determined κs a e f p q i = ((p.0 ∙ sym q.0) i, e.1)

pub place_determined : Determined place-kinds.ps place-kinds.r place-reads.Post
place_determined κs a e f p q i = ((p ∙ sym q) i, e.1)

pub record_at_determined : DeterminedPart record-at-kinds.ps record-at-reads.Post
record_at_determined κs a e f p q = (p ∙ sym q, refl)

pub behind_determined : Determined behind-kinds.ps behind-kinds.r behind-reads.Post
behind_determined κs a e f p q i = ((p ∙ sym q) i, e.1)

pub record_determined : DeterminedPart record-kinds.ps record-reads.Post
record_determined κs a e f p q = (p ∙ sym q, refl)

pub fits-behind_determined : Determined fits-behind-kinds.ps fits-behind-kinds.r fits-behind-reads.Post
fits-behind_determined κs a e f p q i = ((p ∙ sym q) i, e.1)

pub append-fits_determined : Determined append-fits-kinds.ps append-fits-kinds.r append-fits-reads.Post
append-fits_determined κs a e f p q i = ((p ∙ sym q) i, e.1)

pub well_formed_determined : Determined well-formed-kinds.ps well-formed-kinds.r well-formed-reads.Post
well_formed_determined κs a e f p q i = ((p ∙ sym q) i, e.1)

pub read16_determined : Determined read16-kinds.ps read16-kinds.r read16-reads.Post
read16_determined κs a e f p q i = ((p.0 ∙ sym q.0) i, e.1)

pub read32_determined : Determined read32-kinds.ps read32-kinds.r read32-reads.Post
read32_determined κs a e f p q i = ((p.0 ∙ sym q.0) i, e.1)

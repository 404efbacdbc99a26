-- Every public function of this crate has one outcome: its contract leaves nothing open. Read before: specs/Determined.antt of base.
use mathlib.Core.Path.{refl, sym, ◌∙◌}
use Rattle.base.specs.Determined.{Determined, DeterminedPart}
use Rattle.store_image.proofs.find.Kinds as find-kinds
use Rattle.store_image.proofs.find.Reads as find-reads
use Rattle.store_image.proofs.has.Kinds as has-kinds
use Rattle.store_image.proofs.has.Reads as has-reads
use Rattle.store_image.proofs.body.Kinds as body-kinds
use Rattle.store_image.proofs.body.Reads as body-Reads
use Rattle.store_image.proofs.present.Kinds as present-kinds
use Rattle.store_image.proofs.present.Reads as present-reads
use Rattle.store_image.proofs.well_formed.Kinds as well-formed-kinds
use Rattle.store_image.proofs.well_formed.Reads as well-formed-reads
use Rattle.store_image.proofs.make_stores.Kinds as make-stores-kinds
use Rattle.store_image.proofs.make_stores.Reads as make-stores-reads
use Rattle.store_image.proofs.update.Kinds as update-kinds
use Rattle.store_image.proofs.update.Reads as update-reads

pub find_determined : Determined find-kinds.ps find-kinds.r find-reads.Post
find_determined κs a e f p q i = ((p ∙ sym q) i, e.1)

pub has_determined : Determined has-kinds.ps has-kinds.r has-reads.Post
has_determined κs a e f p q i = ((p ∙ sym q) i, e.1)

pub body_determined : DeterminedPart body-kinds.ps body-Reads.Post
body_determined κs a e f p q = (p ∙ sym q, refl)

pub present_determined : Determined present-kinds.ps present-kinds.r present-reads.Post
present_determined κs a e f p q i = ((p ∙ sym q) i, e.1)

pub well_formed_determined : Determined well-formed-kinds.ps well-formed-kinds.r well-formed-reads.Post
well_formed_determined κs a e f p q i = ((p ∙ sym q) i, e.1)

pub make_stores_determined : Determined make-stores-kinds.ps make-stores-kinds.r make-stores-reads.Post
make_stores_determined κs a e f p q i = ((p.0 ∙ sym q.0) i, ((p.1 ∙ sym q.1) i, (tt, (tt, (tt, (tt, tt))))))

pub update_determined : Determined update-kinds.ps update-kinds.r update-reads.Post
update_determined κs a e f p q i = ((p.0 ∙ sym q.0) i, ((p.1 ∙ sym q.1) i, (tt, (tt, (tt, tt)))))

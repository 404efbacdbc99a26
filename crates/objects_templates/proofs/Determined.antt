-- Every public function of this crate has one outcome: its contract leaves nothing open. Read before: specs/Determined.antt of base.
use mathlib.Core.Path.{sym, ◌∙◌}
use Rattle.base.specs.Determined.{Determined}
use Rattle.objects_templates.proofs.read_search.Kinds as read-search-kinds
use Rattle.objects_templates.proofs.read_search.Reads as read-search-reads
use Rattle.objects_templates.proofs.read_update.Kinds as read-update-kinds
use Rattle.objects_templates.proofs.read_update.Reads as read-update-reads
use Rattle.objects_templates.proofs.read_offset_object.Kinds as read-offset-object-kinds
use Rattle.objects_templates.proofs.read_offset_object.Reads as read-offset-object-reads
use Rattle.objects_templates.proofs.read_reference.Kinds as read-reference-kinds
use Rattle.objects_templates.proofs.read_reference.Reads as read-reference-reads

pub read_search_determined : Determined read-search-kinds.ps read-search-kinds.r read-search-reads.Post
read_search_determined κs a e f p q i = ((p ∙ sym q) i, e.1)

pub read-update_determined : Determined read-update-kinds.ps read-update-kinds.r read-update-reads.Post
read-update_determined κs a e f p q i = ((p ∙ sym q) i, e.1)

pub read-offset_object_determined : Determined read-offset-object-kinds.ps read-offset-object-kinds.r read-offset-object-reads.Post
read-offset_object_determined κs a e f p q i = ((p ∙ sym q) i, e.1)

pub read-reference_determined : Determined read-reference-kinds.ps read-reference-kinds.r read-reference-reads.Post
read-reference_determined κs a e f p q i = ((p ∙ sym q) i, e.1)

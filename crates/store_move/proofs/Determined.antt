-- Every public function of this crate has one outcome: its contract leaves nothing open. Read before: specs/Determined.antt of base.
use mathlib.Core.Path.{sym, ◌∙◌}
use Rattle.base.specs.Determined.{Determined}
use Rattle.store_move.proofs.move_card.Kinds as move-card-kinds
use Rattle.store_move.proofs.move_card.Reads as move-card-reads

pub move_card_determined : Determined move-card-kinds.ps move-card-kinds.r move-card-reads.Post
move_card_determined κs a e f p q i = ((p.0 ∙ sym q.0) i, (tt, (tt, ((p.1 ∙ sym q.1) i, tt))))

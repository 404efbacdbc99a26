-- Every public function of this crate has one outcome: its contract leaves nothing open. Read before: specs/Determined.antt of base.
use mathlib.Core.Path.{sym, ◌∙◌}
use Rattle.base.specs.Determined.{Determined}
use Rattle.store_cut.proofs.make_stores.Kinds as make-stores-kinds
use Rattle.store_cut.proofs.make_stores.Reads as make-stores-reads

pub make_stores_determined : Determined make-stores-kinds.ps make-stores-kinds.r make-stores-reads.Post
make_stores_determined κs a e f p q i = ((p.0 ∙ sym q.0) i, ((p.1 ∙ sym q.1) i, (tt, (tt, (tt, tt)))))

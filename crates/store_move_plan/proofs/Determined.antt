-- Every public function of this crate has one outcome: its contract leaves nothing open. Read before: specs/Determined.antt of base.
use mathlib.Core.Path.{sym, ◌∙◌}
use Rattle.base.specs.Determined.{Determined}
use Rattle.store_move_plan.proofs.listed.Kinds as listed-kinds
use Rattle.store_move_plan.proofs.listed.Reads as listed-reads
use Rattle.store_move_plan.proofs.plan.Kinds as plan-kinds
use Rattle.store_move_plan.proofs.plan.Reads as plan-reads

pub listed_determined : Determined listed-kinds.ps listed-kinds.r listed-reads.Post
listed_determined κs a e f p q i = ((p ∙ sym q) i, e.1)

pub plan_determined : Determined plan-kinds.ps plan-kinds.r plan-reads.Post
plan_determined κs a e f p q i = ((p ∙ sym q) i, e.1)

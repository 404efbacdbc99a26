-- Every public function of this crate has one outcome: its contract leaves nothing open. Read before: specs/Determined.antt of base.
use mathlib.Core.Path.{refl, sym, ◌∙◌}
use Rattle.base.specs.Determined.{Determined, DeterminedPart}
use Rattle.machine_chain.proofs.is_chain.Kinds as is-chain-kinds
use Rattle.machine_chain.proofs.is_chain.Reads as is-chain-reads
use Rattle.machine_chain.proofs.is_amid.Kinds as is-amid-kinds
use Rattle.machine_chain.proofs.is_amid.Reads as is-amid-reads
use Rattle.machine_chain.proofs.so_far.Kinds as so-far-kinds
use Rattle.machine_chain.proofs.so_far.Reads as so-far-reads
use Rattle.machine_chain.proofs.goes_on.Kinds as goes-on-kinds
use Rattle.machine_chain.proofs.goes_on.Reads as goes-on-reads
use Rattle.machine_chain.proofs.extend.Kinds as extend-kinds
use Rattle.machine_chain.proofs.extend.Reads as extend-reads
use Rattle.machine_chain.proofs.join.Kinds as join-kinds
use Rattle.machine_chain.proofs.join.Reads as join-reads
use Rattle.machine_chain.proofs.joined.Kinds as joined-kinds
use Rattle.machine_chain.proofs.joined.Reads as joined-reads
use Rattle.machine_chain.proofs.end.Kinds as end-kinds
use Rattle.machine_chain.proofs.end.Reads as end_reads

pub is-chain_determined : Determined is-chain-kinds.ps is-chain-kinds.r is-chain-reads.Post
is-chain_determined κs a e f p q i = ((p ∙ sym q) i, e.1)

pub is_amid_determined : Determined is-amid-kinds.ps is-amid-kinds.r is-amid-reads.Post
is_amid_determined κs a e f p q i = ((p ∙ sym q) i, e.1)

pub so_far_determined : DeterminedPart so-far-kinds.ps so-far-reads.Post
so_far_determined κs a e f p q = (p ∙ sym q, refl)

pub goes_on_determined : Determined goes-on-kinds.ps goes-on-kinds.r goes-on-reads.Post
goes_on_determined κs a e f p q i = ((p ∙ sym q) i, e.1)

pub extend_determined : Determined extend-kinds.ps extend-kinds.r extend-reads.Post
extend_determined κs a e f p q i = (tt, ((p ∙ sym q) i, (tt, (tt, tt))))

pub join_determined : Determined join-kinds.ps join-kinds.r join-reads.Post
join_determined κs a e f p q i = (tt, ((p ∙ sym q) i, (tt, (tt, tt))))

pub joined_determined : DeterminedPart joined-kinds.ps joined-reads.Post
joined_determined κs a e f p q = (p ∙ sym q, refl)

pub end_determined : Determined end-kinds.ps end-kinds.r end_reads.Post
end_determined κs a e f p q i = (tt, ((p ∙ sym q) i, tt))

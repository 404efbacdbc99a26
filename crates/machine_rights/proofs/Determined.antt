-- Every public function of this crate has one outcome: its contract leaves nothing open. Read before: specs/Determined.antt of base.
use mathlib.Core.Path.{sym, ◌∙◌}
use Rattle.base.specs.Determined.{Determined}
use Rattle.machine_rights.proofs.held.Kinds as held-kinds
use Rattle.machine_rights.proofs.held.Reads as held_reads
use Rattle.machine_rights.proofs.effective.Kinds as effective-kinds
use Rattle.machine_rights.proofs.effective.Reads as effective-reads
use Rattle.machine_rights.proofs.is_cleared.Kinds as is-cleared-kinds
use Rattle.machine_rights.proofs.is_cleared.Reads as is-cleared-reads
use Rattle.machine_rights.proofs.flag.Kinds as flag-kinds
use Rattle.machine_rights.proofs.flag.Reads as flag-reads
use Rattle.machine_rights.proofs.may_records.Kinds as may-records-kinds
use Rattle.machine_rights.proofs.may_records.Reads as may-records-reads
use Rattle.machine_rights.proofs.may_biometrics.Kinds as may-biometrics-kinds
use Rattle.machine_rights.proofs.may_biometrics.Reads as may-biometrics-reads

pub held_determined : Determined held-kinds.ps held-kinds.r held_reads.Post
held_determined κs a e f p q i = ((p ∙ sym q) i, e.1)

pub effective_determined : Determined effective-kinds.ps effective-kinds.r effective-reads.Post
effective_determined κs a e f p q i = ((p ∙ sym q) i, e.1)

pub is-cleared_determined : Determined is-cleared-kinds.ps is-cleared-kinds.r is-cleared-reads.Post
is-cleared_determined κs a e f p q i = ((p ∙ sym q) i, e.1)

pub flag_determined : Determined flag-kinds.ps flag-kinds.r flag-reads.Post
flag_determined κs a e f p q i = ((p ∙ sym q) i, e.1)

pub may_records_determined : Determined may-records-kinds.ps may-records-kinds.r may-records-reads.Post
may_records_determined κs a e f p q i = ((p ∙ sym q) i, e.1)

pub may_biometrics_determined : Determined may-biometrics-kinds.ps may-biometrics-kinds.r may-biometrics-reads.Post
may_biometrics_determined κs a e f p q i = ((p ∙ sym q) i, e.1)

-- Every public function of this crate has one outcome: its contract leaves nothing open. Read before: specs/Determined.antt of base.
use mathlib.Core.Path.{refl, sym, ◌∙◌}
use denote.RattleType.{RattleType}
use denote.Param.Laws.{Laws}
use mir.Syntax.{Dict}
use Rattle.store_kinds.specs.declared.rules.Kinds.{Ghosts}
use Rattle.base.specs.Determined.{Determined, DeterminedPart}
use Rattle.store_kinds.proofs.biometrics.state.Kinds as state-kinds
use Rattle.store_kinds.proofs.biometrics.state.Reads as state-reads
use Rattle.store_kinds.proofs.biometrics.written.Kinds as written-kinds
use Rattle.store_kinds.proofs.biometrics.written.Reads as written-reads
use Rattle.store_kinds.proofs.biometrics.room.Kinds as room-kinds
use Rattle.store_kinds.proofs.biometrics.room.Reads as room-reads
use Rattle.store_kinds.proofs.biometrics.written_bytes.Kinds as written-bytes-kinds
use Rattle.store_kinds.proofs.biometrics.written_bytes.Reads as written-bytes-reads
use Rattle.store_kinds.proofs.biometrics.well_formed.Kinds as well-formed-kinds
use Rattle.store_kinds.proofs.biometrics.well_formed.Reads as well-formed-reads
use Rattle.store_kinds.proofs.biometrics.update.Kinds as update-kinds
use Rattle.store_kinds.proofs.biometrics.update.Reads as update-reads
use Rattle.store_kinds.proofs.rules.find_rule.Kinds as find-rule-kinds
use Rattle.store_kinds.proofs.rules.find_rule.Reads as find-rule-reads
use Rattle.store_kinds.proofs.rules.is_biometrics.Kinds as is-biometrics-kinds
use Rattle.store_kinds.proofs.rules.is_biometrics.Reads as is-biometrics-reads
use Rattle.store_kinds.proofs.rules.biometrics_kind.Kinds as biometrics-kind-kinds
use Rattle.store_kinds.proofs.rules.biometrics_kind.Reads as biometrics-kind-reads
use Rattle.store_kinds.proofs.rules.application_of.Kinds as application-of-kinds
use Rattle.store_kinds.proofs.rules.application_of.Reads as application-of-reads
use Rattle.store_kinds.proofs.rules.present_by.Kinds as present-by-kinds
use Rattle.store_kinds.proofs.rules.present_by.Reads as present-by-reads
use Rattle.store_kinds.proofs.rules.kind_ok.Kinds as kind-ok-kinds
use Rattle.store_kinds.proofs.rules.kind_ok.Reads as kind-ok-reads

pub state_determined : Determined state-kinds.ps state-kinds.r state-reads.Post
state_determined κs a e f p q i = ((p ∙ sym q) i, e.1)

pub written_determined : Determined written-kinds.ps written-kinds.r written-reads.Post
written_determined κs a e f p q i = ((p.0 ∙ sym q.0) i, e.1)

pub room_determined : Determined room-kinds.ps room-kinds.r room-reads.Post
room_determined κs a e f p q i = ((p ∙ sym q) i, e.1)

pub written-bytes_determined : DeterminedPart written-bytes-kinds.ps written-bytes-reads.Post
written-bytes_determined κs a e f p q = (p ∙ sym q, refl)

pub well_formed_determined : Determined well-formed-kinds.ps well-formed-kinds.r well-formed-reads.Post
well_formed_determined κs a e f p q i = ((p ∙ sym q) i, e.1)

pub update_determined : Determined update-kinds.ps update-kinds.r update-reads.Post
update_determined κs a e f p q i = ((p.0 ∙ sym q.0) i, ((p.1 ∙ sym q.1) i, (tt, (tt, tt))))

pub find-rule_determined : Determined find-rule-kinds.ps find-rule-kinds.r find-rule-reads.Post
find-rule_determined κs a e f p q i = ((p ∙ sym q) i, e.1)

pub is-biometrics_determined : Determined is-biometrics-kinds.ps is-biometrics-kinds.r is-biometrics-reads.Post
is-biometrics_determined κs a e f p q i = ((p ∙ sym q) i, e.1)

pub biometrics-kind_determined : Determined biometrics-kind-kinds.ps biometrics-kind-kinds.r biometrics-kind-reads.Post
biometrics-kind_determined κs a e f p q i = ((p ∙ sym q) i, e.1)

pub application_of_determined : Determined application-of-kinds.ps application-of-kinds.r application-of-reads.Post
application_of_determined κs a e f p q i = ((p ∙ sym q) i, e.1)

-- what tells which kinds are there may be of any type
module _ (T : RattleType) (L : Laws T) (K : Ghosts T.Denot) (d : Dict) where
  pub present-by_determined : Determined (present-by-kinds.ps T L) (present-by-kinds.r T L) (present-by-reads.Post T L K d)
  present-by_determined κs a e f p q i = ((p ∙ sym q) i, e.1)

pub kind_ok_determined : Determined kind-ok-kinds.ps kind-ok-kinds.r kind-ok-reads.Post
kind_ok_determined κs a e f p q i = ((p ∙ sym q) i, e.1)

-- Every public function of this crate has one outcome: its contract leaves nothing open. Read before: specs/Determined.antt of base.
use mathlib.Core.Path.{sym, ◌∙◌}
use Rattle.base.specs.Determined.{Determined}
use Rattle.machine_session.proofs.open.Kinds as open-kinds
use Rattle.machine_session.proofs.open.Reads as open-reads
use Rattle.machine_session.proofs.open_verdict.Kinds as open-verdict-kinds
use Rattle.machine_session.proofs.open_verdict.Reads as open-verdict-reads
use Rattle.machine_session.proofs.set_file.Kinds as set-file-kinds
use Rattle.machine_session.proofs.set_file.Reads as set-file-reads
use Rattle.machine_session.proofs.current_record.Kinds as current-record-kinds
use Rattle.machine_session.proofs.current_record.Reads as current-record-reads
use Rattle.machine_session.proofs.session_fits.Kinds as session-fits-kinds
use Rattle.machine_session.proofs.session_fits.Reads as session-fits-reads
use Rattle.machine_session.proofs.judge.Kinds as judge-kinds
use Rattle.machine_session.proofs.judge.Reads as judge-reads
use Rattle.machine_session.proofs.resolve.resolve_record.Kinds as resolve-record-kinds
use Rattle.machine_session.proofs.resolve.resolve_record.Reads as resolve-record-reads
use Rattle.machine_session.proofs.resolve.resolve_transparent.Kinds as resolve-transparent-kinds
use Rattle.machine_session.proofs.resolve.resolve_transparent.Reads as resolve-transparent-reads
use Rattle.machine_session.proofs.resolve.resolve_biometrics.Kinds as resolve-biometrics-kinds
use Rattle.machine_session.proofs.resolve.resolve_biometrics.Reads as resolve-biometrics-reads
use Rattle.machine_session.proofs.resolve.resolve_file.Kinds as resolve-file-kinds
use Rattle.machine_session.proofs.resolve.resolve_file.Reads as resolve-file-reads

pub open_determined : Determined open-kinds.ps open-kinds.r open-reads.Post
open_determined κs a e f p q i = ((p ∙ sym q) i, e.1)

pub open_verdict_determined : Determined open-verdict-kinds.ps open-verdict-kinds.r open-verdict-reads.Post
open_verdict_determined κs a e f p q i = ((p ∙ sym q) i, e.1)

pub set-file_determined : Determined set-file-kinds.ps set-file-kinds.r set-file-reads.Post
set-file_determined κs a e f p q i = ((p ∙ sym q) i, e.1)

pub current_record_determined : Determined current-record-kinds.ps current-record-kinds.r current-record-reads.Post
current_record_determined κs a e f p q i = ((p ∙ sym q) i, e.1)

pub session-fits_determined : Determined session-fits-kinds.ps session-fits-kinds.r session-fits-reads.Post
session-fits_determined κs a e f p q i = ((p ∙ sym q) i, e.1)

pub judge_determined : Determined judge-kinds.ps judge-kinds.r judge-reads.Post
judge_determined κs a e f p q i = ((p ∙ sym q) i, e.1)

pub resolve_record_determined : Determined resolve-record-kinds.ps resolve-record-kinds.r resolve-record-reads.Post
resolve_record_determined κs a e f p q i = ((p ∙ sym q) i, e.1)

pub resolve_transparent_determined : Determined resolve-transparent-kinds.ps resolve-transparent-kinds.r resolve-transparent-reads.Post
resolve_transparent_determined κs a e f p q i = ((p ∙ sym q) i, e.1)

pub resolve_biometrics_determined : Determined resolve-biometrics-kinds.ps resolve-biometrics-kinds.r resolve-biometrics-reads.Post
resolve_biometrics_determined κs a e f p q i = ((p ∙ sym q) i, e.1)

pub resolve_file_determined : Determined resolve-file-kinds.ps resolve-file-kinds.r resolve-file-reads.Post
resolve_file_determined κs a e f p q i = ((p ∙ sym q) i, e.1)

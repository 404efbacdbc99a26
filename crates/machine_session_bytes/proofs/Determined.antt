-- Every public function of this crate has one outcome: its contract leaves nothing open. Read before: specs/Determined.antt of base.
use mathlib.Core.Path.{sym, ◌∙◌}
use Rattle.base.specs.Determined.{Determined}
use Rattle.machine_session_bytes.proofs.is_session.Kinds as is-session-kinds
use Rattle.machine_session_bytes.proofs.is_session.Reads as is-session-reads
use Rattle.machine_session_bytes.proofs.session_in.Kinds as session-in-kinds
use Rattle.machine_session_bytes.proofs.session_in.Reads as session-in-reads
use Rattle.machine_session_bytes.proofs.put_session.Kinds as put-session-kinds
use Rattle.machine_session_bytes.proofs.put_session.Reads as put-session-reads

pub is-session_determined : Determined is-session-kinds.ps is-session-kinds.r is-session-reads.Post
is-session_determined κs a e f p q i = ((p ∙ sym q) i, e.1)

pub session_in_determined : Determined session-in-kinds.ps session-in-kinds.r session-in-reads.Post
session_in_determined κs a e f p q i = ((p ∙ sym q) i, e.1)

pub put-session_determined : Determined put-session-kinds.ps put-session-kinds.r put-session-reads.Post
put-session_determined κs a e f p q i = ((p.0 ∙ sym q.0) i, ((p.1 ∙ sym q.1) i, (tt, tt)))

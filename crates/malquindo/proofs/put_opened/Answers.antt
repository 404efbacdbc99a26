-- `put_opened` stores the session and behind it a no_chain_bytes chain.
use Rattle.machine_chain.specs.Layout.{no_chain_bytes}
use Rattle.malquindo.proofs.Calling.{opened-short, opened-stored}
use Rattle.malquindo.proofs.put_opened.Goals as goal

pub returns-then-session-lt-LENGTH : goal.returns-then-session-lt-LENGTH
returns-then-session-lt-LENGTH c = opened-short _ _ c.if-session-lt-LENGTH.true

pub returns : goal.returns
unfolding no_chain_bytes
returns c = opened-stored _ _ c.if-session-lt-LENGTH.false (c.put_session.ensures.1, c.put_session.ensures.2) c.put.ensures

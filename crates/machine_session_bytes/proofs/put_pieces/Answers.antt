-- Each piece stands where the one before it ends.
use Rattle.machine_session_bytes.proofs.Storing.{pieces-refused, pieces_accepted}
use native.Mathlib.Omega.{arith}
use Rattle.machine_session_bytes.proofs.put_pieces.Goals as goal

pub returns-then-out-lt-LENGTH : goal.returns-then-out-lt-LENGTH
returns-then-out-lt-LENGTH c = let x = c.args in let g = c.well_formed in pieces-refused _ x.a x.b x.c (omega (arith, g)) (omega (arith, g)) (omega (arith, g)) c.if-out-lt-LENGTH.true

pub returns : goal.returns
returns c = let x = c.args in let g = c.well_formed in pieces_accepted _ x.a x.b x.c (omega (arith, g)) (omega (arith, g)) (omega (arith, g)) c.if-out-lt-LENGTH.false c.put.ensures.1 c.put-2.ensures.1 c.put-3.ensures

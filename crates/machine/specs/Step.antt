-- One call.
use Rattle.std.specs.Prelude.{ℕ, List, [], ◌∷◌, length, Result, Ok, Err}
use Rattle.base.specs.Choice.{all_of}
use Rattle.machine_chain.specs.Chain.{Chain}
use Rattle.machine_link.specs.Link.{chain_fits}
use Rattle.machine_session.specs.Session.{opened, session_fits}
use Rattle.machine_session.specs.Verdict.{verdict, open_verdict}
use Rattle.machine_session.specs.declared.Session.{Session}
use Rattle.machine_dispatch.specs.Decide.{data_of, decide, chain_behind}
use Rattle.machine_answer.specs.Outcome.{Outcome, outcome, refused}
use Rattle.machine.specs.Effects.{done}
use Rattle.machine_answer.specs.declared.Answer.{Answer}
use Rattle.machine_session.specs.declared.Refusal.{Refusal}

-- the verdict on a command with a response buffer of n bytes: the session fits, and its chain does [U5] [LK7]
abbrev pub verdict_on : List ℕ → Session → Chain → ℕ → Result (Unit {0}) Refusal
verdict_on img s ch n = verdict img (all_of (session_fits img s ∷ chain_fits ch ∷ [])) n

-- a refusal touches nothing; an accepted command does what it comes to [U6]
unfoldable pub step_by : Result (Unit {0}) Refusal → List ℕ → Session → Chain → List ℕ → List ℕ → Outcome
step_by (Ok tt) img s ch cmd buf = done (decide img s ch cmd) img s (data_of ch cmd) buf
step_by (Err r) img s ch cmd buf = outcome (refused r s) img buf

-- a command, in a session with the chain ch [U5] [U6] [U8]
unfoldable pub step : List ℕ → Session → Chain → List ℕ → List ℕ → Outcome
step img s ch cmd buf = step_by (verdict_on img s ch (length buf)) img s ch cmd buf

-- the chain afterwards; a refusal leaves it [U6] [LK8]
abbrev pub chain_after_by : Result (Unit {0}) Refusal → Chain → List ℕ → Chain
chain_after_by (Ok tt) ch cmd = chain_behind ch cmd
chain_after_by (Err r) ch cmd = ch

-- [LK8]
unfoldable pub chain_after : List ℕ → Session → Chain → List ℕ → ℕ → Chain
chain_after img s ch cmd n = chain_after_by (verdict_on img s ch n) ch cmd

-- an opening: length 0 and status 0, and the session that the certificates open [U7]
unfoldable pub opening : List ℕ → Answer
opening c = record { verdict = open_verdict c; length = 0; status = 0; session = opened c }

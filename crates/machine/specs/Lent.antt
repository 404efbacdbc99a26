-- One call whose chain stands in lent bytes: what the code of this crate meets.
use Rattle.std.specs.Prelude.{ℕ, List, [], ◌∷◌, length, Option, Some, None, Result, Ok, Err}
use Rattle.base.specs.Choice.{all_of}
use Rattle.base.specs.Bytes.{put}
use Rattle.machine_apdu.specs.Status.{wrong_length}
use Rattle.machine_apdu.specs.Shape.{shape_of}
use Rattle.machine_apdu.specs.declared.Frame.{Frame}
use Rattle.machine_session.specs.Session.{session_fits}
use Rattle.machine_session.specs.Verdict.{verdict}
use Rattle.machine_session.specs.declared.Session.{Session}
use Rattle.machine_chain.specs.Chain.{Chain}
use Rattle.machine_chain.specs.Layout.{chain_bytes, chain_in}
use Rattle.machine_link.specs.Link.{turn, lent_fits}
use Rattle.machine_link.specs.declared.Course.{Course}
use Rattle.machine_link.specs.declared.Course.TheVariants.{Extends, Goes}
use Rattle.machine_dispatch.specs.Decide.{chain_behind}
use Rattle.machine_answer.specs.Outcome.{Outcome}
use Rattle.machine.specs.declared.Judgement.{Judgement}
use Rattle.machine.specs.declared.Judgement.TheVariants.{Denied, Stopped, Linked, Obeyed}
use Rattle.machine.specs.Step.{step_by}
use Rattle.machine_session.specs.declared.Refusal.{Refusal}

-- the verdict: bytes that are no chain fit no image [U5] [LK2]
abbrev pub verdict_lent : List ℕ → Session → List ℕ → ℕ → Result (Unit {0}) Refusal
verdict_lent img s xs n = verdict img (all_of (session_fits img s ∷ lent_fits xs ∷ [])) n

-- a command that the chain lets go on, by its course [LK5] [LK6]
abbrev pub judged_course : Result Course ℕ → Frame → Judgement
judged_course (Err w) f = Stopped w
judged_course (Ok Extends) f = Linked f
judged_course (Ok Goes) f = Obeyed f

-- step 1 [O1]
abbrev pub judged_shape : Chain → Option Frame → Judgement
judged_shape ch None = Stopped wrong_length
judged_shape ch (Some f) = judged_course (turn ch f) f

-- [U5] [U6]
abbrev pub judged_by : Result (Unit {0}) Refusal → Chain → List ℕ → Judgement
-- by its shape and its course: Stopped, Linked or Obeyed
judged_by (Ok tt) ch cmd = judged_shape ch (shape_of cmd)
judged_by (Err r) ch cmd = Denied r

-- what a command with a response buffer of n bytes comes to, before its data are looked at [U5] [U6]
unfoldable pub judged : List ℕ → Session → List ℕ → List ℕ → ℕ → Judgement
judged img s xs cmd n = judged_by (verdict_lent img s xs n) (chain_in xs) cmd

-- a command in a session whose chain is the bytes xs [U6]
unfoldable pub step_lent : List ℕ → Session → List ℕ → List ℕ → List ℕ → Outcome
step_lent img s xs cmd buf = step_by (verdict_lent img s xs (length buf)) img s (chain_in xs) cmd buf

-- the bytes of the chain afterwards; a refusal touches nothing [U6] [LK8]
abbrev pub chain_into_by : Result (Unit {0}) Refusal → List ℕ → List ℕ → List ℕ
chain_into_by (Ok tt) xs cmd = put xs 0 (chain_bytes (chain_behind (chain_in xs) cmd))
chain_into_by (Err r) xs cmd = xs

-- [LK8]
unfoldable pub chain_into : List ℕ → Session → List ℕ → List ℕ → ℕ → List ℕ
chain_into img s xs cmd n = chain_into_by (verdict_lent img s xs n) xs cmd

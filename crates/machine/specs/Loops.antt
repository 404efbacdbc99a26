-- Not to be believed: only contracts of private functions and proofs cite this.
use Rattle.std.specs.Prelude.{ℕ, ◌+◌, ◌≤◌, ◌≡◌, true, List, ◌++◌, length}
use Rattle.store_image.specs.Image.{well_formed}
use Rattle.machine_apdu.specs.declared.Frame.{Frame}
use Rattle.machine_session.specs.declared.Session.{Session}
use Rattle.machine_chain.specs.Chain.{Chain, so_far}
use Rattle.machine_chain.specs.Layout.{is_chain, chain_in}
use Rattle.machine_dispatch.specs.Decide.{by_class, whole_frame}
use Rattle.machine_answer.specs.Outcome.{Outcome}
use Rattle.machine.specs.Effects.{done}

-- what a command relies on that is obeyed: its own data, and a chain that has room for them
pub record Ready (img xs : List ℕ) (f : Frame) (own : List ℕ) (n : ℕ) : Type 0 where
  pub well : well_formed img ≡ true
  pub long : 2050 ≤ n
  pub chain : is_chain xs ≡ true
  pub fits : length (so_far (chain_in xs)) + length own ≤ 1024
  pub size : length own ≡ f.lc

-- a command that is obeyed, behind the chain ch
abbrev pub obeyed : List ℕ → Session → Chain → Frame → List ℕ → List ℕ → Outcome
obeyed img s ch f own buf = let d = so_far ch ++ own in done (by_class img s (whole_frame ch f) d) img s d buf

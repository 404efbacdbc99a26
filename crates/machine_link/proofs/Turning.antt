-- What a command's course tells of it. Read specs/Link.antt before. Exports `Extending`, `Going`, `Turned`, `turn-told`, `extending_few`, `going_few`.
use Prim.Native.Nat.{ℕ, ◌+◌, ◌≤◌}
use mathlib.Core.Path.{◌≡◌, refl, sym, ◌∙◌}
use mathlib.Core.Bool.{true, false}
use native.Mathlib.Omega.{arith}
use lib.ListN.{length}
use lib.Dec.{ltb, eqb}
use borrow.Author.Tests.{eqb-true, leb-true}
use Rattle.base.proofs.Cases.{false-true, if_else_ind}
use Rattle.machine_apdu.specs.Status.{normal, wrong_length}
use Rattle.machine_apdu.specs.declared.Frame.{Frame}
use Rattle.machine_session.specs.Order.{in_order}
use Rattle.machine_session.proofs.Steps.{in_order-each}
use Rattle.machine_action.specs.Tests.{lc_only}
use Rattle.machine_chain.specs.Chain.{Chain, NoChain, Links, is_amid, so_far}
use Rattle.machine_link.specs.declared.Course.{Course}
use Rattle.machine_link.specs.declared.Course.TheVariants.{Extends, Goes}
use Rattle.machine_link.specs.Parameters.{parameters_fit}
use Rattle.machine_link.specs.Link.{is_link, head_status, join_fits, link_turn, last_turn, turn}
use Rattle.std.specs.Prelude.{Result, Ok, Err}

-- the tests of a link that is taken
pub record Extending (ch : Chain) (f : Frame) : Type 0 where
  pub link : is_link f.header ≡ true
  pub head : head_status ch f.header ≡ normal
  pub parameters : parameters_fit f.header.ins f.header.p1 f.header.p2 ≡ true
  pub some : lc_only f ≡ true
  pub fits : join_fits ch f ≡ true

-- and of a command that is obeyed
pub record Going (ch : Chain) (f : Frame) : Type 0 where
  pub whole : is_link f.header ≡ false
  pub last : is_amid ch ≡ true → (head_status ch f.header ≡ normal) × (join_fits ch f ≡ true)

-- what stops a command is a status word below 9000
pub data Turned (ch : Chain) (f : Frame) : Result Course ℕ → Type 0 where
  stopped : (w : ℕ) → ltb w 0x9000 ≡ true → Turned ch f (Err w)
  joined : Extending ch f → Turned ch f (Ok Extends)
  gone : Going ch f → Turned ch f (Ok Goes)

module _ (ch : Chain) (f : Frame) where
  head-below : eqb (head_status ch f.header) normal ≡ false → Turned ch f (Err (head_status ch f.header))
  unfolding head_status
  head-below e =
      stopped _ (in_order-each (λ (w : ℕ). eqb w normal ≡ false → ltb w 0x9000 ≡ true) _ _ ((λ z. refl), ((λ z. refl), ((λ z. refl), tt))) (λ p z. false-true (sym z)) e)

  short : Turned ch f (Err wrong_length)
  short = stopped _ refl

  pub turn-told : Turned ch f (turn ch f)
  unfolding turn link_turn last_turn in_order
  turn-told =
      if_else_ind (Turned ch f) (is_link f.header)
      (λ e.
      if_else_ind (Turned ch f) (eqb (head_status ch f.header) normal)
      (λ z.
      if_else_ind (Turned ch f) (parameters_fit f.header.ins f.header.p1 f.header.p2)
      (λ a.
      if_else_ind (Turned ch f) (lc_only f)
      (λ b.
      if_else_ind (Turned ch f) (join_fits ch f)
      (λ d. joined (record { link = e; head = eqb-true _ _ z; parameters = a; some = b; fits = d }))
      (λ d. short))
      (λ b. short))
      (λ a. stopped _ refl))
      head-below)
      (λ e.
      if_else_ind (Turned ch f) (is_amid ch)
      (λ z.
      if_else_ind (Turned ch f) (eqb (head_status ch f.header) normal)
      (λ y. if_else_ind (Turned ch f) (join_fits ch f) (λ a. gone (record { whole = e; last = λ k. (eqb-true _ _ y, a) })) (λ a. short))
      head-below)
      (λ z. gone (record { whole = e; last = λ k. false-true (sym z ∙ k) })))

-- the join of a command that goes on has at most 1,024 bytes
fits_few : (ch : Chain) (f : Frame) → join_fits ch f ≡ true → length (so_far ch) + f.lc ≤ 1024
unfolding join_fits
fits_few ch f e = leb-true _ _ e

pub extending_few : (ch : Chain) (f : Frame) → Extending ch f → length (so_far ch) + f.lc ≤ 1024
extending_few ch f x = fits_few ch f x.fits

pub going_few : (ch : Chain) (f : Frame) → f.lc ≤ 1024 → Going ch f → length (so_far ch) + f.lc ≤ 1024
going_few NoChain f l g = omega arith
going_few (Links i p q bs) f l g = fits_few (Links i p q bs) f (g.last refl).1

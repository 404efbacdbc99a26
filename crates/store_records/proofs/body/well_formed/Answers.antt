use Prim.Native.Nat.{ℕ, ◌≤◌}
use mathlib.Core.Path.{◌≡◌, sym, ap, ◌∙◌}
use mathlib.Core.Bool.{true}
use mathlib.Core.List.{List}
use native.Mathlib.Omega.{arith}
use lib.ListN.{length}
use Rattle.base.proofs.Cases.{flag_refused, flag_accepted}
use Rattle.store_records.specs.Body.{next_place, ok_at}
use Rattle.store_records.proofs.Bodies.{place-zero, place-turn, ok_to-zero, ok_to-suc, ok_at_facts, body_ok-refused}
use Rattle.store_records.proofs.body.well_formed.Goals as goal
use Rattle.store_records.proofs.body.well_formed.Goals.{Else-not-record_ok}

-- the record at `at` is right, and so within the body
abbrev B : Else-not-record_ok → List ℕ
B c = c.args.body.now

was-ok : (c : Else-not-record_ok) → ok_at c.args.longest (B c) c.loop.at ≡ true
was-ok c = flag_accepted c.record_ok.ensures c.if-not-record_ok.false-raw

whole : (c : Else-not-record_ok) → next_place (B c) c.loop.at ≤ length (B c)
whole c = (ok_at_facts _ _ _ (was-ok c)).whole

pub loop-init : goal.loop-init
loop-init c = (sym (place-zero _), omega arith, ok_to-zero _ _)

pub returns-then-not-record_ok : goal.returns-then-not-record_ok
returns-then-not-record_ok c =
    sym (body_ok-refused _ _ _ c.loop.counter (omega arith)
    (ap (ok_at _ _) (sym c.loop.invariant.0) ∙ flag_refused c.record_ok.ensures c.if-not-record_ok.true-raw))

pub loop-preserved : goal.loop-preserved
loop-preserved c =
    let inv = c.loop.invariant in (
      place-turn _ _ _ _ inv.0 c.read16.ensures.0,
      omega (arith, whole (goal.at.loop-preserved c).Else-not-record_ok),
      ok_to-suc _ _ _ inv.2 (ap (ok_at _ _) (sym inv.0) ∙ was-ok (goal.at.loop-preserved c).Else-not-record_ok),
    )

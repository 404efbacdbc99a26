-- `store_move_plan::room_ok` meets its contract.
use mathlib.Core.Path.{◌≡◌, sym, ◌∙◌}
use native.Mathlib.Omega.{arith}
use lib.ListN.{length, length-replicate}
use Rattle.base.proofs.Cases.{flag_refused, flag_accepted}
use Rattle.store_move_plan.specs.Rooms.{zeros}
use Rattle.store_kinds.proofs.ByKind.{kind_ok-rule, kind_ok-refused, kind_ok-biometrics}
use Rattle.store_kinds.proofs.Updating.{bio_ok-short}
use Rattle.store_move_plan.proofs.Empty.{empty_records, empty_biometrics}
use Rattle.store_move_plan.proofs.room_ok.Goals as goal

pub returns-then-not-is_biometrics : goal.returns-then-not-is_biometrics
returns-then-not-is_biometrics c = sym (kind_ok-refused _ _ (sym c.find_rule.ensures ∙ c.in-None.is) (flag_refused c.is_biometrics.ensures c.if-not-is_biometrics.true-raw))

pub returns-then-len-lt5 : goal.returns-then-len-lt5
returns-then-len-lt5 c =
    let l : length (zeros c.args.len) ≡ c.args.len = length-replicate _ 0 in
    sym (kind_ok-biometrics _ _ (sym c.find_rule.ensures ∙ c.in-None.is) (flag_accepted c.is_biometrics.ensures c.if-not-is_biometrics.false-raw) ∙ bio_ok-short _ (omega arith))

pub returns-in-Some : goal.returns-in-Some
returns-in-Some c = sym (kind_ok-rule _ _ _ (sym c.find_rule.ensures ∙ c.in-Some.is) ∙ empty_records _ _ c.args.len)

pub returns-else-len-lt5 : goal.returns-else-len-lt5
returns-else-len-lt5 c = sym (kind_ok-biometrics _ _ (sym c.find_rule.ensures ∙ c.in-None.is) (flag_accepted c.is_biometrics.ensures c.if-not-is_biometrics.false-raw) ∙ empty_biometrics c.args.len (omega arith))

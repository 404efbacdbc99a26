-- `store_move_plan::row_ok` meets its contract.
use mathlib.Core.Path.{sym, ap, ◌∙◌}
use native.Mathlib.Omega.{arith}
use Rattle.base.proofs.Cases.{flag_refused, flag_accepted}
use Rattle.store_image.specs.Image.{present}
use Rattle.store_move_plan.specs.Rooms.{blank}
use Rattle.store_move_plan.proofs.Blank.{row_order, row_room_lem, row_rest}
use Rattle.store_move_plan.proofs.row_ok.Goals.{then-kind-last-via-then-kind-last, then-kind-last-via-else-kind-last+then-not-room_ok}
use Rattle.store_move_plan.proofs.row_ok.Goals as goal

pub returns-then-kind-last : goal.returns-then-kind-last
returns-then-kind-last c =
    elim c.then-kind-last.branch [
      | then-kind-last-via-then-kind-last w ↦ row_order _ _ c.requires _ _ c.read16-kind.ensures.0 (omega (arith, w.if-kind-last.true))
      | then-kind-last-via-else-kind-last+then-not-room_ok w ↦
          row_room_lem _ _ c.requires _ _ c.read16-kind.ensures.0 _ w.read32.ensures.0 (flag_refused w.room_ok.ensures w.if-not-room_ok.true-raw)
    ]

pub returns : goal.returns
returns c =
    c.present.ensures
    ∙ ap (present (blank c.args.list.now)) c.application_of.ensures
    ∙ sym (row_rest _ _ c.requires _ _ c.read16-kind.ensures.0 _ c.read32.ensures.0 (omega arith) (flag_accepted c.room_ok.ensures c.if-not-room_ok.false-raw))

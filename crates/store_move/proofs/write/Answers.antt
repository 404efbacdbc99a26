use mathlib.Core.Path.{◌≡◌, refl, ap, ◌∙◌}
use native.Mathlib.Omega.{arith}
use lib.ListN.{length}
use Rattle.base.proofs.Parts.{length_part}
use Rattle.store_move_plan.specs.Rooms.{rows, row_kind, sections}
use Rattle.store_move_plan.proofs.Rows.{row_inside}
use Rattle.store_move.specs.Moving.{content}
use Rattle.store_move.proofs.Walk.{stand_start}
use Rattle.store_move.proofs.Writing.{Turn, turn, write_start, write_end, write_size}
use Rattle.store_move.proofs.write.Goals as goal
use Rattle.store_move.proofs.write.Goals.{After-read32}

-- row i of the list, where its section is to be written
row : (c : After-read32)
    → Turn c.args.old.now c.args.list.now c.args.target.now c.loop-i.target c.loop-i.i c.loop-i.at c.read32.result
unfolding rows
row c = turn _ _ _ c.requires.1 c.requires.2 _ _ _ _ c.loop-i-test.true c.loop-i.invariant.0 c.loop-i.invariant.1 c.read32.ensures.0

pub loop-i-init : goal.loop-i-init
unfolding sections
loop-i-init c = (write_start _ _ _ c.requires.1 c.requires.2, refl, stand_start _ c.requires.0)

pub overflow_add-end : goal.overflow_add-end
unfolding rows
overflow_add-end c = omega (arith, (turn _ _ _ c.requires.1 c.requires.2 c.loop-i.i c.loop-i.at _ _ c.loop-i-test.true c.loop-i.invariant.0 c.loop-i.invariant.1 refl).inside)

pub overflow_add-end-in-loop-i : goal.overflow_add-end-in-loop-i
overflow_add-end-in-loop-i c = omega (arith, (row (goal.at.overflow_add-end-in-loop-i c).After-read32).inside)

pub slice_bounds-write_section-end : goal.slice_bounds-write_section-end
slice_bounds-write_section-end c = omega (arith, (row (goal.at.slice_bounds-write_section-end c).After-read32).inside, (row (goal.at.slice_bounds-write_section-end c).After-read32).size)

pub content-requires : goal.content-requires
content-requires c = c.loop-i.invariant.2

pub write_section-requires : goal.write_section-requires
unfolding rows
write_section-requires c =
    let same : length c.content.result.now ≡ length (content c.args.old.now (row_kind c.args.list.now c.loop-i.i)) =
    ap length (c.content.ensures ∙ ap (content c.args.old.now) c.read16-kind.ensures.0) in
    (ap length c.part.ensures ∙ length_part _ _ 6 (row_inside c.args.list.now c.loop-i.i c.loop-i-test.true), omega (arith, same, (row (goal.at.write_section-requires c).After-read32).part-size, (row (goal.at.write_section-requires c).After-read32).fits))

pub behind-from-requires : goal.behind-from-requires
behind-from-requires c = c.loop-i.invariant.2

pub loop-i-preserved : goal.loop-i-preserved
unfolding rows
loop-i-preserved c =
    let content-there = c.content.ensures ∙ ap (content c.args.old.now) c.read16-kind.ensures.0 in
    ((row (goal.at.loop-i-preserved c).After-read32).written _ _ _ c.part.ensures content-there c.write_section.ensures, (row (goal.at.loop-i-preserved c).After-read32).next_place, c.behind-from.ensures)

pub shape_of-target : goal.shape_of-target
unfolding rows
shape_of-target c = write_size _ _ _ c.requires.1 c.requires.2 _ c.loop-i.i (omega arith) c.loop-i.invariant.0

pub returns : goal.returns
unfolding rows
returns c = write_end _ _ _ c.requires.1 c.requires.2 _ c.loop-i.i (omega arith) c.loop-i.invariant.0

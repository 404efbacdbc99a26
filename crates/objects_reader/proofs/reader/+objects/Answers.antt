use native.Mathlib.Nat.{add-zero}
use mathlib.Core.Path.{◌≡◌, sym, ap, ◌∙◌}
use mathlib.Core.Bool.{not}
use lib.ListN.{length, length-take, length-drop}
use native.Mathlib.Omega.{arith}
use Prim.Native.Nat.{ℕ, ◌-◌}
use Rattle.objects_reader.proofs.Steps.{StepIn, Turn, within, turn-done, turn_bad, turn_absent, turn_plain, turn_on, turn_stop}
use Rattle.objects_reader.specs.declared.reader.Step.{Step}
use Rattle.objects_reader.proofs.reader.+objects.Goals as goal
use Rattle.objects_reader.proofs.reader.+objects.Goals.{After-first}

-- where `first` has answered a step
turn : (t : ℕ) (c : After-first t) → (
    let a = c.args in
    let l = c.loop-fault in
    Turn a.form.now a.s.now a.depth a.base l.row l.at a.r.now l.r c.first.result
    )
turn t c = record { first = c.first.ensures; so_far = c.loop-fault.invariant.2 }

abbrev In-left : (t : ℕ) → After-first t → Step → Type 0
In-left t c =
    let a = c.args in
    let l = c.loop-fault in
    StepIn (length a.form.now - l.row) a.depth (length a.s.now - l.at)

-- what it says lies within what is left of s and of the rows
said : (t : ℕ) (c : After-first t) {step : Step} → c.first.result ≡ step → In-left t c step
said t c e = within (turn t c) e

pub loop-fault-init : goal.loop-fault-init
loop-fault-init t c = (omega arith, omega arith, simp add-zero)

pub returns-in-Done : goal.returns-in-Done
returns-in-Done t c = turn-done (turn t (goal.at.returns-in-Done t c).After-first) c.in-Done.is

pub returns-in-Bad : goal.returns-in-Bad
returns-in-Bad t c = turn_bad (turn t (goal.at.returns-in-Bad t c).After-first) c.in-Bad.is c.spoil.ensures

pub overflow_add-base-in-Plain : goal.overflow_add-base-in-Plain
overflow_add-base-in-Plain t c = let w = said t (goal.at.overflow_add-base-in-Plain t c).After-first c.in-Plain.is in omega arith

pub overflow_add-base-in-Plain-2 : goal.overflow_add-base-in-Plain-2
overflow_add-base-in-Plain-2 t c = let w = said t (goal.at.overflow_add-base-in-Plain-2 t c).After-first c.in-Plain.is in omega arith

pub note-requires : goal.note-requires
note-requires t c = let w = said t (goal.at.note-requires t c).After-first c.in-Plain.is in omega arith

pub overflow_add-at : goal.overflow_add-at
overflow_add-at t c = let w = said t (goal.at.overflow_add-at t c).After-first c.in-Plain.is in omega arith

pub overflow_add-at-in-Plain : goal.overflow_add-at-in-Plain
overflow_add-at-in-Plain t c = let w = said t (goal.at.overflow_add-at-in-Plain t c).After-first c.in-Plain.is in omega arith

pub overflow_add-row : goal.overflow_add-row
overflow_add-row t c = let w = said t (goal.at.overflow_add-row t c).After-first c.in-Plain.is in omega arith

pub loop-fault-smaller-in-Plain : goal.loop-fault-smaller-in-Plain
loop-fault-smaller-in-Plain t c = let w = said t (goal.at.loop-fault-smaller-in-Plain t c).After-first c.in-Plain.is in omega arith

pub loop-fault-preserved-in-Plain : goal.loop-fault-preserved-in-Plain
loop-fault-preserved-in-Plain t c = let w = said t (goal.at.loop-fault-preserved-in-Plain t c).After-first c.in-Plain.is in (omega arith, omega arith, turn_plain (turn t (goal.at.loop-fault-preserved-in-Plain t c).After-first) c.in-Plain.is c.note.ensures)

pub overflow_add-from : goal.overflow_add-from
overflow_add-from t c = let w = said t (goal.at.overflow_add-from t c).After-first c.in-Nested.is in omega arith

pub overflow_add-to : goal.overflow_add-to
overflow_add-to t c = let w = said t (goal.at.overflow_add-to t c).After-first c.in-Nested.is in omega arith

pub overflow_add-inner : goal.overflow_add-inner
overflow_add-inner t c = let w = said t (goal.at.overflow_add-inner t c).After-first c.in-Nested.is in omega arith

pub overflow_add-next : goal.overflow_add-next
overflow_add-next t c = let w = said t (goal.at.overflow_add-next t c).After-first c.in-Nested.is in omega arith

pub slice_bounds-objects-count : goal.slice_bounds-objects-count
slice_bounds-objects-count t c = let w = said t (goal.at.slice_bounds-objects-count t c).After-first c.in-Nested.is in omega arith

pub slice_bounds-objects-start : goal.slice_bounds-objects-start
slice_bounds-objects-start t c = let w = said t (goal.at.slice_bounds-objects-start t c).After-first c.in-Nested.is in omega arith

pub slice_bounds-objects-end : goal.slice_bounds-objects-end
slice_bounds-objects-end t c = let w = said t (goal.at.slice_bounds-objects-end t c).After-first c.in-Nested.is in omega arith

pub slice_bounds-objects-count-in-Nested : goal.slice_bounds-objects-count-in-Nested
slice_bounds-objects-count-in-Nested t c = let w = said t (goal.at.slice_bounds-objects-count-in-Nested t c).After-first c.in-Nested.is in omega arith

pub slice_bounds-objects-start-in-Nested : goal.slice_bounds-objects-start-in-Nested
slice_bounds-objects-start-in-Nested t c = let w = said t (goal.at.slice_bounds-objects-start-in-Nested t c).After-first c.in-Nested.is in omega arith

pub slice_bounds-objects-end-in-Nested : goal.slice_bounds-objects-end-in-Nested
slice_bounds-objects-end-in-Nested t c = let w = said t (goal.at.slice_bounds-objects-end-in-Nested t c).After-first c.in-Nested.is in omega arith

pub overflow_add-base-in-Nested : goal.overflow_add-base-in-Nested
overflow_add-base-in-Nested t c = let w = said t (goal.at.overflow_add-base-in-Nested t c).After-first c.in-Nested.is in omega arith

pub overflow_sub-depth : goal.overflow_sub-depth
overflow_sub-depth t c = let w = said t (goal.at.overflow_sub-depth t c).After-first c.in-Nested.is in omega arith

pub loop-fault-smaller-in-Nested : goal.loop-fault-smaller-in-Nested
loop-fault-smaller-in-Nested t c = let w = said t (goal.at.loop-fault-smaller-in-Nested t c).After-first c.in-Nested.is in omega arith

pub objects-requires : goal.objects-requires
objects-requires t c = let w = said t (goal.at.objects-requires t c).After-first c.in-Nested.is in (omega arith, simp (length-take, length-drop) (omega arith))

pub returns-then-is_some : goal.returns-then-is_some
returns-then-is_some t c = turn_stop (turn t (goal.at.returns-then-is_some t c).After-first) c.in-Nested.is c.objects.ensures (ap not (sym c.is_some.ensures ∙ c.if-is_some.true))

pub loop-fault-preserved-in-Nested : goal.loop-fault-preserved-in-Nested
loop-fault-preserved-in-Nested t c = let w = said t (goal.at.loop-fault-preserved-in-Nested t c).After-first c.in-Nested.is in (omega arith, omega arith, turn_on (turn t (goal.at.loop-fault-preserved-in-Nested t c).After-first) c.in-Nested.is c.objects.ensures (ap not (sym c.is_some.ensures ∙ c.if-is_some.false)))

pub overflow_add-row-in-Absent : goal.overflow_add-row-in-Absent
overflow_add-row-in-Absent t c = let w = said t (goal.at.overflow_add-row-in-Absent t c).After-first c.in-Absent.is in omega arith

pub loop-fault-smaller : goal.loop-fault-smaller
loop-fault-smaller t c = let w = said t (goal.at.loop-fault-smaller t c).After-first c.in-Absent.is in omega arith

pub loop-fault-preserved : goal.loop-fault-preserved
loop-fault-preserved t c = let w = said t (goal.at.loop-fault-preserved t c).After-first c.in-Absent.is in (omega arith, omega arith, turn_absent (turn t (goal.at.loop-fault-preserved t c).After-first) c.in-Absent.is c.note-in-Absent.ensures)

-- A form by its rows, and a reading step by step. Read before: specs/Form.antt, specs/Loops.antt. Exports `Turn` (a turn of the reader's
-- loop) with a law for each kind of step, `turn-…`.
use Prim.Native.Nat.{ℕ, zero, suc, ◌+◌, ◌-◌, ◌≤◌}
use mathlib.Core.Path.{◌≡◌, refl, sym, ap, subst, ◌∙◌}
use mathlib.Core.List.{List}
use mathlib.Core.Bool.{true, false}
use native.Mathlib.Omega.{arith}
use native.Mathlib.Nat.{le_refl, add-sub_cancel_left}
use lib.ListN.{length, take, drop, length-drop, length-take}
use lib.Seq.{drop-drop}
use lib.Dec.{ltb, eqb}
use borrow.Author.Tests.{lt-ltb, ltb-false, eqb-false}
use Rattle.objects_reader.specs.Loops.{missing_of, step_at, first_object}
use Rattle.base.specs.Choice.{if_else}
use Rattle.base.proofs.Cases.{by_cases, if_else_ind}
use Rattle.base.proofs.Parts.{rest}
use Rattle.objects_reader.specs.Head.{head_of, Head}
use Rattle.objects_reader.specs.Form.{Form, done, plain, maybe, nested, col, cut_of, form_in, form_of, is_clean, spoilt, noted, on_head, of_size, read_form}
use Rattle.objects_reader.specs.declared.head.HeadFault.TheVariants.{NoTag, NoLength}
use Rattle.std.specs.Prelude.{Ok, Err}
use Rattle.objects_reader.specs.declared.reader.Fault.{Fault}
use Rattle.objects_reader.specs.declared.reader.Fault.TheVariants.{Tag, Length}
use Rattle.objects_reader.specs.declared.reader.Step.{Step}
use Rattle.objects_reader.specs.declared.reader.Step.TheVariants.{Done, Absent, Bad, Plain, Nested}
use Rattle.objects_reader.specs.declared.reader.Reading.{Reading}
use Rattle.objects_reader.proofs.Lengths.{HeadIn, head_of_in}

-- ---- what a step says lies within a part of n bytes and m rows

abbrev pub StepIn : ℕ → ℕ → ℕ → Step → Type 0
StepIn m d n Done = Unit {0}
StepIn m d n Absent = 1 ≤ m
StepIn m d n (Bad f) = Unit {0}
StepIn m d n (Plain start len) = (1 ≤ m) × (start + len ≤ n)
StepIn m d n (Nested start len cut) = (1 ≤ cut) × (cut ≤ m) × (start + len ≤ n) × (1 ≤ d)

step_in : (rows : List (List ℕ)) (d n : ℕ) (h : Head) → 1 ≤ length rows → 1 ≤ d → HeadIn 5 n h → StepIn (length rows) d n (step_at h rows)
step_in rows d n (Err NoTag) p q i =
    let P = StepIn (length rows) d n in
    if_else_ind P (eqb (col rows 1) 0) (λ e. if_else_ind P (eqb (col rows 2) 0) (λ f. p) (λ f. tt)) (λ e. tt)
step_in rows d n (Err NoLength) p q i = tt
step_in rows d n (Ok (start, len)) p q i =
    let P = StepIn (length rows) d n in
    if_else_ind P (eqb (col rows 1) 0)
    (λ e. if_else_ind P (ltb len (col rows 3)) (λ f. tt) (λ f. if_else_ind P (ltb (col rows 4) len) (λ g. tt) (λ g. omega arith)))
    (λ e. omega arith)

first_in : (rows : List (List ℕ)) (d : ℕ) (s : List ℕ) → StepIn (length rows) d (length s) (first_object rows d s)
unfolding first_object
first_in rows d s =
    let P = StepIn (length rows) d (length s) in
    if_else_ind P (ltb (length rows) 1) (λ e. if_else_ind P (eqb (length s) 0) (λ f. tt) (λ f. tt))
    (λ e. if_else_ind P (eqb d 0) (λ f. tt)
    (λ f. step_in rows d (length s) (head_of (col rows 0) s) (ltb-false _ _ e) (let n = eqb-false d 0 f in omega arith) (head_of_in (col rows 0) s)))

-- ---- a form by its first row

-- enough fuel is enough
same_form : (k m : ℕ) (rows : List (List ℕ)) → length rows ≤ k → length rows ≤ m → form_in k rows ≡ form_in m rows
unfolding form_in
same_form zero zero rows p q = refl
same_form zero (suc m) rows p q = simp (lt-ltb (length rows) 1 (omega arith))
same_form (suc k) zero rows p q = simp (lt-ltb (length rows) 1 (omega arith))
same_form (suc k) (suc m) rows p q =
    by_cases (ltb (length rows) 1) (λ e. simp e) (λ e.
    let l = ltb-false (length rows) 1 e in
    let a = length-drop 1 rows in
    let b = length-drop (cut_of rows) rows in
    let i = length-take (cut_of rows - 1) (drop 1 rows) in
    simp (
      e,
      same_form k m (drop 1 rows) (omega arith) (omega arith),
      same_form k m (take (cut_of rows - 1) (drop 1 rows)) (omega arith) (omega arith),
      same_form k m (drop (cut_of rows) rows) (omega arith) (omega arith),
    ))

form_step : (rows : List (List ℕ)) → form_of rows ≡ if_else (ltb (length rows) 1) done
    (if_else (eqb (col rows 1) 0)
    (if_else (eqb (col rows 2) 0)
    (maybe (col rows 0) (col rows 3) (col rows 4) (form_of (drop 1 rows)))
    (plain (col rows 0) (col rows 3) (col rows 4) (form_of (drop 1 rows))))
    (nested (col rows 0) (form_of (take (cut_of rows - 1) (drop 1 rows))) (form_of (drop (cut_of rows) rows))))
unfolding form_of form_in
form_step rows =
    let a = length-drop 1 rows in
    let b = length-drop (cut_of rows) rows in
    let i = length-take (cut_of rows - 1) (drop 1 rows) in
    same_form (length rows) (suc (length rows)) rows (le_refl _) (omega arith) ∙
    simp (
      same_form (length rows) (length (drop 1 rows)) (drop 1 rows) (omega arith) (le_refl _),
      same_form (length rows) (length (take (cut_of rows - 1) (drop 1 rows))) (take (cut_of rows - 1) (drop 1 rows)) (omega arith) (le_refl _),
      same_form (length rows) (length (drop (cut_of rows) rows)) (drop (cut_of rows) rows) (omega arith) (le_refl _),
    )

-- ---- a reading by its first step

-- the reading q, and what follows where q is clean
abbrev and_then : Reading → Form → ℕ → ℕ → List ℕ → Reading
and_then q f d base s = if_else (is_clean q.fault) (read_form f d base s q) q

-- how a reading goes on after its first step
abbrev on_step : Step → List (List ℕ) → ℕ → ℕ → List ℕ → Reading → Reading
on_step Done rows d base s r = r
on_step Absent rows d base s r = read_form (form_of (drop 1 rows)) d base s (noted r 0 0)
on_step (Bad f) rows d base s r = spoilt r f base
on_step (Plain start len) rows d base s r = read_form (form_of (drop 1 rows)) d (base + (start + len)) (drop (start + len) s) (noted r (base + start) len)
on_step (Nested start len cut) rows d base s r =
    and_then (read_form (form_of (take (cut - 1) (drop 1 rows))) (d - 1) (base + start) (take len (drop start s)) r) (form_of (drop cut rows)) d (base + (start + len)) (drop (start + len) s)

-- an object that stands there or does not; `none` is what follows where its tag is missing
value_case : (rows : List (List ℕ)) (d base : ℕ) (s : List ℕ) (r : Reading) (h : Head) (none : Reading) → eqb (col rows 1) 0 ≡ true → none ≡ on_step (missing_of rows) rows d base s r →
    on_head h
    (λ start len. of_size (col rows 3) (col rows 4) len (read_form (form_of (drop 1 rows)) d (base + (start + len)) (drop (start + len) s) (noted r (base + start) len)) (spoilt r Length base))
    none (spoilt r Length base) ≡ on_step (step_at h rows) rows d base s r
value_case rows d base s r (Err NoTag) none f m = m
value_case rows d base s r (Err NoLength) none f m = refl
value_case rows d base s r (Ok (start, len)) none f m = simp f
    (by_cases (ltb len (col rows 3)) (λ a. simp a) (λ a. simp a (by_cases (ltb (col rows 4) len) (λ b. simp b) (λ b. simp b))))

nested_case : (rows : List (List ℕ)) (d base : ℕ) (s : List ℕ) (r : Reading) (h : Head) → eqb (col rows 1) 0 ≡ false →
    on_head h
    (λ start len. and_then (read_form (form_of (take (cut_of rows - 1) (drop 1 rows))) (d - 1) (base + start) (take len (drop start s)) r) (form_of (drop (cut_of rows) rows)) d (base + (start + len)) (drop (start + len) s))
    (spoilt r Tag base) (spoilt r Length base) ≡ on_step (step_at h rows) rows d base s r
nested_case rows d base s r (Err NoTag) f = simp f
nested_case rows d base s r (Err NoLength) f = refl
nested_case rows d base s r (Ok (start, len)) f = simp f

read_step : (rows : List (List ℕ)) (d base : ℕ) (s : List ℕ) (r : Reading) → read_form (form_of rows) d base s r ≡ on_step (first_object rows d s) rows d base s r
unfolding read_form first_object
read_step rows d base s r =
    let h = head_of (col rows 0) s in
    rw (form_step rows)
    (by_cases (ltb (length rows) 1) (λ e. simp e (by_cases (eqb (length s) 0) (λ f. simp f) (λ f. simp f)))
    (λ e. simp e (by_cases (eqb (col rows 1) 0)
    (λ f. by_cases (eqb (col rows 2) 0)
    (λ m. simp (f, m) (by_cases (eqb d 0) (λ g. simp g) (λ g. simp g (value_case rows d base s r h _ f (simp (f, m))))))
    (λ m. simp (f, m) (by_cases (eqb d 0) (λ g. simp g) (λ g. simp g (value_case rows d base s r h _ f (simp (f, m)))))))
    (λ f. simp f (by_cases (eqb d 0) (λ g. simp g) (λ g. simp g (nested_case rows d base s r h f)))))))

-- ---- a turn of the code's loop, at a row and a place

-- what the rest of a level still reads
abbrev pub left : List (List ℕ) → List ℕ → ℕ → ℕ → ℕ → ℕ → Reading → Reading
left form s d base row at q = read_form (form_of (drop row form)) d (base + at) (drop at s) q

-- where `first` has answered the step h: r is the reading before this level, q the one so far
pub record Turn (form : List (List ℕ)) (s : List ℕ) (d base row at : ℕ) (r q : Reading) (h : Step) : Type 0 where
  pub first : h ≡ first_object (take (length form - row) (drop row form)) d (take (length s - at) (drop at s))
  pub so_far : read_form (form_of form) d base s r ≡ left form s d base row at q

module _ {form : List (List ℕ)} {s : List ℕ} {d base row at : ℕ} {r q : Reading} {h : Step} (w : Turn form s d base row at r q h) where
  first-is : h ≡ first_object (drop row form) d (drop at s)
  first-is = rw (← rest row form, ← rest at s) w.first

  pub within : {h' : Step} → h ≡ h' → StepIn (length form - row) d (length s - at) h'
  within e = subst (StepIn (length form - row) d (length s - at)) (sym first-is ∙ e) (rw (length-drop row form, length-drop at s) at (first_in (drop row form) d (drop at s)))

  goes : (h' : Step) → h ≡ h' → read_form (form_of form) d base s r ≡ on_step h' (drop row form) d (base + at) (drop at s) q
  goes h' e = w.so_far ∙ read_step (drop row form) d (base + at) (drop at s) q ∙ ap (λ (k : Step). on_step k (drop row form) d (base + at) (drop at s) q) (sym first-is ∙ e)

  pub turn-done : h ≡ Done → q ≡ read_form (form_of form) d base s r
  turn-done e = sym (goes Done e)

  pub turn_bad : {f : Fault} {q' : Reading} → h ≡ Bad f → q' ≡ spoilt q f (base + at) → q' ≡ read_form (form_of form) d base s r
  turn_bad {f} e k = k ∙ sym (goes (Bad f) e)

  pub turn_absent : {q' : Reading} → h ≡ Absent → q' ≡ noted q 0 0 → read_form (form_of form) d base s r ≡ left form s d base (row + 1) at q'
  turn_absent e k = goes Absent e ∙ simp (drop-drop, k)

  pub turn_plain : {start len : ℕ} {q' : Reading} → h ≡ Plain start len → q' ≡ noted q (base + at + start) len
      → read_form (form_of form) d base s r ≡ left form s d base (row + 1) (at + start + len) q'
  turn_plain {start} {len} e k =
      let a : base + at + (start + len) ≡ base + (at + start + len) = omega arith in
      let b : at + (start + len) ≡ at + start + len = omega arith in
      goes (Plain start len) e ∙ simp (drop-drop, a, b, k)

  -- an object inside which objects stand: q' is what the call for them answered
  module _ {start len cut : ℕ} {q' : Reading} (e : h ≡ Nested start len cut)
      (k : q' ≡ read_form (form_of (take (row + cut - (row + 1)) (drop (row + 1) form))) (d - 1) (base + (at + start)) (take (at + start + len - (at + start)) (drop (at + start) s)) q) where
    turn-nested : read_form (form_of form) d base s r ≡ and_then q' (form_of (drop (row + cut) form)) d (base + (at + start + len)) (drop (at + start + len) s)
    turn-nested =
        let a : base + at + (start + len) ≡ base + (at + start + len) = omega arith in
        let b : at + (start + len) ≡ at + start + len = omega arith in
        let m : row + cut - (row + 1) ≡ cut - 1 = omega arith in
        let n : base + at + start ≡ base + (at + start) = omega arith in
        let i = simp (m, add-sub_cancel_left (at + start) len) at k in
        goes (Nested start len cut) e ∙ simp (drop-drop, a, b, n, ← i)

    pub turn_on : is_clean q'.fault ≡ true → read_form (form_of form) d base s r ≡ left form s d base (row + cut) (at + start + len) q'
    turn_on t = turn-nested ∙ simp t

    pub turn_stop : is_clean q'.fault ≡ false → q' ≡ read_form (form_of form) d base s r
    turn_stop t = sym (turn-nested ∙ simp t)

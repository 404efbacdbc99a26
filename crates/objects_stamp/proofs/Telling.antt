-- The reader's fault behind the contents of the places that it noted is the first fault of all: a place is noted only where
-- nothing before it is wrong in tag and length, so what is wrong with a noted content stands before the reader's fault. Exports
-- `Small`, `wrong_right`, `tells-clean`, `told-first`, and `told_next`, `told_bad`, `told_end` (the loop of `tell`).
use Prim.Native.Nat.{ℕ, zero, suc, ◌+◌, ◌-◌, ◌*◌, ◌≤◌, ◌<◌}
use mathlib.Core.Path.{◌≡◌, refl, sym, ap, subst, ◌∙◌}
use mathlib.Core.List.{List}
use mathlib.Core.Bool.{Bool, true, false, not}
use native.Mathlib.Omega.{arith}
use lib.ListN.{length, get_or, take, drop, length-set}
use lib.Seq.{get_or-set_same, get_or-set_other}
use lib.Dec.{ltb, leb, eqb}
use borrow.Author.Tests.{lt-ltb, le-ltb, ne_eqb, ltb-false, eqb-true, eqb-false}
use Rattle.base.specs.Choice.{if_else}
use Rattle.base.proofs.Cases.{by_cases, if_else_ind, false-true, flag_refused, flag_accepted}
use Rattle.objects_reader.specs.Head.{body_in, length_of, head_of, past_by, Head}
use Rattle.objects_reader.specs.Form.{Form, done, plain, maybe, nested, is_clean, nowhere, fresh, spoilt, noted, on_head, of_size, on_value, read_form, read_all}
use Rattle.objects_reader.specs.Encoding.{leaf_count, deep}
use Rattle.objects_reader.specs.Places.{span_at}
use Rattle.objects_reader.proofs.Within.{nowhere_yet}
use Rattle.objects_reader.specs.declared.head.HeadFault.TheVariants.{NoTag, NoLength}
use Rattle.std.specs.Prelude.{Option, None, Some, Ok, Err}
use Rattle.objects_reader.specs.declared.reader.Fault.{Fault}
use Rattle.objects_reader.specs.declared.reader.Fault.TheVariants.{Tag, Length, Depth}
use Rattle.objects_reader.specs.declared.reader.Reading.{Reading}
use Rattle.objects_reader.specs.declared.reader.Span.{Span}
use Rattle.objects_stamp.specs.declared.Reason.{Reason}
use Rattle.objects_stamp.specs.declared.Reason.TheVariants.{WrongTag, WrongLength, WrongContent}
use Rattle.objects_stamp.specs.FirstFault.{Finding, and_then, object_fault, field_fault, first_fault}
use Rattle.objects_stamp.specs.Loops.{wrong, of_fault, object_at, tells}

-- ---- where an object starts

-- tags of two bytes, and no field of 256 bytes or more
unfoldable pub Small : Form → Type 0
Small done = Unit {0}
Small (plain t lo hi f) = (256 ≤ t) × (hi < 256) × Small f
Small (maybe t lo hi f) = (256 ≤ t) × (hi < 256) × Small f
Small (nested t g f) = Small g × Small f

abbrev StartIs : ℕ → ℕ → Head → Type 0
StartIs a b (Ok (k, n)) = n < 256 → k ≡ if_else (ltb n 128) a b
StartIs a b (Err NoTag) = Unit {0}
StartIs a b (Err NoLength) = Unit {0}

body-start : (s : List ℕ) (k least n : ℕ) → (least ≤ n → n < 256 → k ≡ if_else (ltb n 128) 1 2) → StartIs 1 2 (body_in s k least n)
body-start s k least n h =
    if_else_ind (StartIs 1 2) (ltb n least) (λ e. tt) (λ e. if_else_ind (StartIs 1 2) (leb n (length s - k)) (λ f. h (ltb-false n least e)) (λ f. tt))

length-start : (s : List ℕ) → StartIs 1 2 (length_of s)
unfolding length_of
length-start s =
    let P = StartIs 1 2 in
    if_else_ind P (ltb (length s) 1) (λ e. tt)
    (λ e. if_else_ind P (ltb (get_or s 0 0) 128) (λ f. body-start s 1 0 (get_or s 0 0) (λ a b. simp f))
    (λ f. if_else_ind P (eqb (get_or s 0 0) 129)
    (λ g. if_else_ind P (ltb (length s) 2) (λ h. tt) (λ h. body-start s 2 128 (get_or s 1 0) (λ a b. simp (le-ltb (get_or s 1 0) 128 a))))
    (λ g. if_else_ind P (eqb (get_or s 0 0) 130)
    (λ i. if_else_ind P (ltb (length s) 3) (λ h. tt) (λ h. body-start s 3 256 (get_or s 1 0 * 256 + get_or s 2 0) (λ a b. absurd (omega arith))))
    (λ i. tt))))

three_four : (b : Bool) → ◌≡◌ {A = ℕ} (2 + if_else b 1 2) (if_else b 3 4)
three_four true = refl
three_four false = refl

past_start : (h : Head) → StartIs 1 2 h → StartIs 3 4 (past_by 2 h)
past_start (Ok (k, n)) i = λ b. ap (λ (x : ℕ). 2 + x) (i b) ∙ three_four (ltb n 128)
past_start (Err NoTag) i = tt
past_start (Err NoLength) i = tt

head-start : (t : ℕ) (s : List ℕ) → 256 ≤ t → StartIs 3 4 (head_of t s)
unfolding head_of
head-start t s g =
    let P = StartIs 3 4 in
    simp (le-ltb t 256 g)
    (if_else_ind P (ltb (length s) 2) (λ e. tt)
    (λ e. if_else_ind P (eqb (get_or s 0 0 * 256 + get_or s 1 0) t) (λ f. past_start (length_of (drop 2 s)) (length-start (drop 2 s))) (λ f. tt)))

object-at : (t base : ℕ) (s : List ℕ) (start len : ℕ) → 256 ≤ t → len < 256 → head_of t s ≡ Ok (start, len) → object_at (base + start) len ≡ base
object-at t base s start len g l e =
    let i : StartIs 3 4 (Ok (start, len)) = subst (StartIs 3 4) e (head-start t s g) in
    let k = i l in
    omega arith

-- ---- readings

-- Nothing is wrong yet, and no place behind those noted is taken.
record Open (r : Reading) : Type 0 where
  clean : r.fault ≡ None
  places : length r.places ≡ 13
  free : (k : ℕ) → r.n ≤ k → span_at r k ≡ nowhere

-- the places of r are places of q
record Kept (r q : Reading) : Type 0 where
  same : (k : ℕ) → k < r.n → span_at q k ≡ span_at r k

-- q is r with one more place
record More (r q : Reading) (start len : ℕ) : Type 0 where
  count : q.n ≡ suc r.n
  still : Open q
  kept : Kept r q
  is : span_at q r.n ≡ record { at = start; len = len }

more : (r : Reading) (start len : ℕ) → Open r → r.n < 13 → More r (noted r start len) start len
more r start len o h =
    let t = lt-ltb r.n 13 h in
    let a = o.places in
    let p : Span = record { at = start; len = len } in
    record {
      count = simp t (omega arith);
      still = record {
        clean = simp t o.clean;
        places = simp (t, length-set) a;
        free = λ k i. simp t (let i' : r.n + 1 ≤ k = simp t at i in simp (get_or-set_other r.places r.n k p nowhere (omega arith)) (o.free k (omega arith)));
      };
      kept = record { same = λ k i. simp (t, get_or-set_other r.places r.n k p nowhere (omega arith)) };
      is = simp (t, get_or-set_same r.places r.n p nowhere (omega arith));
    }

pub wrong_right : {w : Reason × ℕ} → ◌≡◌ {A = Finding} (Err w) (Ok tt) → ⊥
wrong_right {w} e = let z : ◌≡◌ {A = ℕ} 0 1 = cc in omega arith

of_clean : (f : Option Fault) (at : ℕ) → of_fault f at ≡ Ok tt → is_clean f ≡ true
of_clean None at e = refl
of_clean (Some Tag) at e = absurd (wrong_right e)
of_clean (Some Length) at e = absurd (wrong_right e)
of_clean (Some Depth) at e = absurd (wrong_right e)

module _ (ok : ℕ → ℕ → ℕ → Bool) (empty : (k : ℕ) → ok k 0 0 ≡ true) where
  -- places that are not taken tell nothing
  tells-rest : (q : Reading) (m k : ℕ) → ((j : ℕ) → k ≤ j → span_at q j ≡ nowhere) → tells ok q m k ≡ of_fault q.fault q.at
  unfolding tells
  tells-rest q zero k a = refl
  tells-rest q (suc m) k a = simp (a k (omega arith), empty k) (tells-rest q m (suc k) (λ j i. a j (omega arith)))

  -- what is told of a reading q that goes on from p
  module _ (p q : Reading) (o : Open p) (s : Kept p q) where
    abbrev behind : Finding
    behind = tells ok q (13 - p.n) p.n

    at-end : (m k : ℕ) → k + m ≡ 13 → k ≡ p.n → tells ok q m k ≡ and_then (tells ok p m k) behind
    at-end m k h e =
        let l : m ≡ 13 - p.n = omega arith in
        rw (tells-rest p m k (λ i g. o.free i (omega arith)), o.clean, l, e) refl

    tells-step : (m k : ℕ) → k + suc m ≡ 13 → k < p.n → p.n ≤ 13 → tells ok q m (suc k) ≡ and_then (tells ok p m (suc k)) behind
        → tells ok q (suc m) k ≡ and_then (tells ok p (suc m) k) behind
    unfolding tells
    tells-step m k h l u ih =
        rw (s.same k l)
        (by_cases (ok k (span_at p k).at (span_at p k).len) (λ e. simp e ih) (λ e. simp e))

    tells-on : (m k : ℕ) → k + m ≡ 13 → k ≤ p.n → p.n ≤ 13 → tells ok q m k ≡ and_then (tells ok p m k) behind
    tells-on zero k h l u = at-end zero k h (omega arith)
    tells-on (suc m) k h l u =
        by_cases (eqb k p.n) (λ e. at-end (suc m) k h (eqb-true k p.n e))
        (λ e. let n = eqb-false k p.n e in
        tells-step m k h (omega arith) u (tells-on m (suc k) (omega arith) (omega arith) u))

  -- what is right ended clean
  pub tells-clean : (q : Reading) (m k : ℕ) → tells ok q m k ≡ Ok tt → is_clean q.fault ≡ true
  unfolding tells
  tells-clean q zero k e = of_clean q.fault q.at e
  tells-clean q (suc m) k e =
      by_cases (ok k (span_at q k).at (span_at q k).len) (λ f. tells-clean q m (suc k) (simp f at e)) (λ f. absurd (wrong_right (simp f at e)))

  -- q is the reading of a form from r on, and v what the form says
  record Goes (f : Form) (r q : Reading) (v : Finding) : Type 0 where
    kept : Kept r q
    clean : is_clean q.fault ≡ true → Open q × (q.n ≡ r.n + leaf_count f)
    same : tells ok q (13 - r.n) r.n ≡ v

  -- a fault of the reader's own
  spoilt-goes : (f : Form) (r : Reading) (x : Fault) (at : ℕ) → Open r → Goes f r (spoilt r x at) (of_fault (Some x) at)
  spoilt-goes f r x at o = record {
    kept = record { same = λ k h. refl };
    clean = λ c. false-true c;
    same = tells-rest (spoilt r x at) (13 - r.n) r.n o.free;
  }

  -- one more place, of a field whose object starts at `at`
  more-goes : (f g : Form) (r p q : Reading) (start len at : ℕ) (v : Finding) → leaf_count g ≡ suc (leaf_count f) → r.n < 13 → More r p start len → object_at start len ≡ at
      → Goes f p q v → Goes g r q (if_else (ok r.n start len) v (Err (WrongContent, at)))
  unfolding tells
  more-goes f g r p q start len at v c h m e x =
      let n = m.count in
      let s = x.kept.same r.n (omega arith) ∙ m.is in
      let w : tells ok q (13 - suc r.n) (suc r.n) ≡ v = rw n at x.same in
      let i : 13 - r.n ≡ suc (13 - suc r.n) = omega arith in
      record {
        kept = record { same = λ k j. x.kept.same k (omega arith) ∙ m.kept.same k j };
        clean = λ y. let z = x.clean y in let u = z.1 in (z.0, omega arith);
        same = rw (i, s, e, w) refl;
      }

  absent-goes : (f g : Form) (r p q : Reading) (v : Finding) → leaf_count g ≡ suc (leaf_count f) → r.n < 13 → More r p 0 0 → Goes f p q v → Goes g r q v
  absent-goes f g r p q v c h m x = simp (empty r.n) at (more-goes f g r p q 0 0 _ v c h m refl x)

  -- objects inside an object, and what follows it
  stop_goes : (g h : Form) (r p : Reading) (v w : Finding) → Goes g r p v → is_clean p.fault ≡ false → Goes h r p (and_then v w)
  stop_goes g h r p (Ok _) w x n = false-true (sym n ∙ tells-clean p (13 - r.n) r.n x.same)
  stop_goes g h r p (Err (y, at)) w x n = record { kept = x.kept; clean = λ c. false-true (sym n ∙ c); same = x.same }

  on-goes : (f g h : Form) (r p q : Reading) (v w : Finding) → leaf_count h ≡ leaf_count g + leaf_count f → r.n + leaf_count h ≤ 13 → Goes g r p v → is_clean p.fault ≡ true → Goes f p q w
      → Goes h r q (and_then v w)
  on-goes f g h r p q v w c l x n y =
      let z = x.clean n in
      let u = z.1 in
      record {
        kept = record { same = λ k j. y.kept.same k (omega arith) ∙ x.kept.same k j };
        clean = λ e. let i = y.clean e in let j = i.1 in (i.0, omega arith);
        same = tells-on p q z.0 y.kept (13 - r.n) r.n (omega arith) (omega arith) (omega arith) ∙ rw (x.same, y.same) refl;
      }

  -- a field, and what follows it
  module _ (t lo hi d base : ℕ) (s : List ℕ) (r none : Reading) (v : Finding) (f g : Form) (c : leaf_count g ≡ suc (leaf_count f)) (big : 256 ≤ t) (small : hi < 256)
      (o : Open r) (room : r.n < 13)
      (ih : (b : ℕ) (u : List ℕ) (q : Reading) → Open q → q.n ≡ suc r.n → Goes f q (read_form f d b u q) (first_fault ok f q.n b u)) (x : Goes g r none v) where
    bad : Goes g r (spoilt r Length base) (Err (WrongLength, base))
    bad = spoilt-goes g r Length base o

    head_goes : (h : Head) → head_of t s ≡ h →
        Goes g r
        (on_head h (λ start len. of_size lo hi len (read_form f d (base + (start + len)) (drop (start + len) s) (noted r (base + start) len)) (spoilt r Length base)) none (spoilt r Length base))
        (object_fault h base (λ start len. of_size lo hi len (if_else (ok r.n (base + start) len) (first_fault ok f (suc r.n) (base + (start + len)) (drop (start + len) s)) (Err (WrongContent, base))) (Err (WrongLength, base))) v)
    head_goes (Err NoTag) e = x
    head_goes (Err NoLength) e = bad
    head_goes (Ok (start, len)) e =
        by_cases (ltb len lo) (λ a. simp a bad) (λ a. simp a
        (by_cases (ltb hi len) (λ b. simp b bad) (λ b. simp b
        (let m = more r (base + start) len o room in
        let l = ltb-false hi len b in
        let y = ih (base + (start + len)) (drop (start + len) s) (noted r (base + start) len) m.still m.count in
        more-goes f g r (noted r (base + start) len) _ (base + start) len base _ c room m (object-at t base s start len big (omega arith) e) (rw m.count at y)))))

    field-goes : 1 ≤ d → Goes g r (on_value t lo hi d base s r (read_form f d) none) (field_fault t lo hi base s (ok r.n) (λ n. first_fault ok f (suc r.n) (base + n) (drop n s)) v)
    field-goes k = simp (ne_eqb d 0 (omega arith)) (head_goes (head_of t s) refl)

  nested_goes : (t : ℕ) (g f : Form) (d base : ℕ) (s : List ℕ) (r : Reading) → Open r → r.n + (leaf_count g + leaf_count f) ≤ 13
      → ((b : ℕ) (u : List ℕ) → Goes g r (read_form g (d - 1) b u r) (first_fault ok g r.n b u))
      → ((b : ℕ) (u : List ℕ) (q : Reading) → Open q → q.n ≡ r.n + leaf_count g → Goes f q (read_form f d b u q) (first_fault ok f q.n b u)) → (h : Head) →
      Goes (nested t g f) r
      (on_head h (λ start len. let q = read_form g (d - 1) (base + start) (take len (drop start s)) r in
      if_else (is_clean q.fault) (read_form f d (base + (start + len)) (drop (start + len) s) q) q) (spoilt r Tag base) (spoilt r Length base))
      (object_fault h base (λ start len. and_then (first_fault ok g r.n (base + start) (take len (drop start s))) (first_fault ok f (r.n + leaf_count g) (base + (start + len)) (drop (start + len) s))) (Err (WrongTag, base)))
  unfolding leaf_count
  nested_goes t g f d base s r o l ig ih (Err NoTag) = spoilt-goes (nested t g f) r Tag base o
  nested_goes t g f d base s r o l ig ih (Err NoLength) = spoilt-goes (nested t g f) r Length base o
  nested_goes t g f d base s r o l ig ih (Ok (start, len)) =
      let q = read_form g (d - 1) (base + start) (take len (drop start s)) r in
      let x = ig (base + start) (take len (drop start s)) in
      by_cases (is_clean q.fault)
      (λ e. let z = x.clean e in
      let y = ih (base + (start + len)) (drop (start + len) s) q z.0 z.1 in
      let w = subst (λ (n : ℕ). Goes f q (read_form f d (base + (start + len)) (drop (start + len) s) q) (first_fault ok f n (base + (start + len)) (drop (start + len) s))) z.1 y in
      simp e (on-goes f g (nested t g f) r q _ _ _ refl l x e w))
      (λ e. simp e (stop_goes g (nested t g f) r q _ _ x e))

  goes : (f : Form) (d base : ℕ) (s : List ℕ) (r : Reading) → Small f → deep f ≤ d → Open r → r.n + leaf_count f ≤ 13 → Goes f r (read_form f d base s r) (first_fault ok f r.n base s)
  unfolding read_form first_fault leaf_count deep Small
  goes done d base s r p k o l =
      by_cases (eqb (length s) 0)
      (λ e. simp e (record {
        kept = record { same = λ j h. refl };
        clean = λ c. (o, omega arith);
        same = tells-rest r (13 - r.n) r.n o.free ∙ rw o.clean refl;
      }))
      (λ e. simp e (spoilt-goes done r Tag base o))
  goes (plain t lo hi f) d base s r p k o l =
      field-goes t lo hi d base s r _ _ f (plain t lo hi f) refl p.0 p.1 o (omega arith)
      (λ b u q i n. goes f d b u q p.2 (omega arith) i (omega arith)) (spoilt-goes (plain t lo hi f) r Tag base o) (omega arith)
  goes (maybe t lo hi f) d base s r p k o l =
      let m = more r 0 0 o (omega arith) in
      let n = m.count in
      let y = goes f d base s (noted r 0 0) p.2 (omega arith) m.still (omega arith) in
      field-goes t lo hi d base s r _ _ f (maybe t lo hi f) refl p.0 p.1 o (omega arith)
      (λ b u q i n. goes f d b u q p.2 (omega arith) i (omega arith))
      (absent-goes f (maybe t lo hi f) r (noted r 0 0) _ _ refl (omega arith) m (rw m.count at y)) (omega arith)
  goes (nested t g f) d base s r p k o l =
      simp (ne_eqb d 0 (omega arith))
      (nested_goes t g f d base s r o l (λ b u. goes g (d - 1) b u r p.0 (omega arith) o (omega arith))
      (λ b u q i n. goes f d b u q p.1 (omega arith) i (omega arith)) (head_of t s))

  -- The reader's fault, behind the contents of all thirteen places, is the first fault.
  pub told-first : (f : Form) (s : List ℕ) → Small f → deep f ≤ 4 → leaf_count f ≤ 13 → tells ok (read_all f s) 13 0 ≡ first_fault ok f 0 0 s
  told-first f s p k l =
      (goes f 4 0 s fresh p k
      (record { clean = refl; places = refl; free = λ j h. nowhere_yet 13 j }) (omega arith)).same

-- ---- as the code goes along the places

module _ (ok : ℕ → ℕ → ℕ → Bool) (q : Reading) (k : ℕ) (so_far : tells ok q 13 0 ≡ tells ok q (13 - k) k) where
  -- what stands at the k-th place decides, and then the others
  told-step : k < 13 → {b : Bool} → ok k (span_at q k).at (span_at q k).len ≡ b
      → tells ok q 13 0 ≡ if_else b (tells ok q (13 - (k + 1)) (k + 1)) (Err (WrongContent, object_at (span_at q k).at (span_at q k).len))
  unfolding tells
  told-step h e =
      let i : 13 - k ≡ suc (13 - (k + 1)) = omega arith in
      let j : k + 1 ≡ suc k = omega arith in
      so_far ∙ rw (i, e, j) refl

  pub told_next : {b : Bool} → k < 13 → b ≡ ok k (span_at q k).at (span_at q k).len → not b ≡ false → tells ok q 13 0 ≡ tells ok q (13 - (k + 1)) (k + 1)
  told_next h e n = told-step h (flag_accepted e n)

  pub told_bad : {b : Bool} {at : ℕ} → k < 13 → b ≡ ok k (span_at q k).at (span_at q k).len → not b ≡ true → at ≡ object_at (span_at q k).at (span_at q k).len
      → wrong WrongContent at ≡ tells ok q 13 0
  told_bad h e n a = ap (wrong WrongContent) a ∙ sym (told-step h (flag_refused e n))

  pub told_end : {v : Finding} → 13 ≤ k → v ≡ of_fault q.fault q.at → v ≡ tells ok q 13 0
  unfolding tells
  told_end h e = let i : 13 - k ≡ 0 = omega arith in e ∙ sym (so_far ∙ rw i refl)

-- Every place that a reading notes lies within the data, whatever the data and the form. Read before: specs/Places.antt. Exports
-- `nowhere_yet`, `all_within` and `read-within`.
use Prim.Native.Nat.{ℕ, zero, suc, ◌+◌, ◌-◌, ◌≤◌}
use mathlib.Core.Path.{◌≡◌, refl}
use mathlib.Core.List.{List}
use native.Mathlib.Omega.{arith}
use lib.ListN.{length, take, drop, get_or, replicate, length-set, length-drop, length-take}
use lib.Seq.{get_or-set_same, get_or-set_other}
use lib.Dec.{ltb, eqb}
use borrow.Author.Tests.{ltb-true, eqb-true, eqb-false}
use Rattle.base.proofs.Cases.{by_cases, if_else_ind}
use Rattle.objects_reader.specs.Head.{head_of, Head}
use Rattle.objects_reader.specs.Form.{Form, done, plain, maybe, nested, is_clean, nowhere, fresh, spoilt, noted, on_head, on_value, read_form, read_all, read_by}
use Rattle.objects_reader.specs.Places.{Within}
use Rattle.objects_reader.specs.declared.head.HeadFault.TheVariants.{NoTag, NoLength}
use Rattle.std.specs.Prelude.{Ok, Err}
use Rattle.objects_reader.specs.declared.reader.Fault.{Fault}
use Rattle.objects_reader.specs.declared.reader.Fault.TheVariants.{Length, Depth}
use Rattle.objects_reader.specs.declared.reader.Reading.{Reading}
use Rattle.objects_reader.specs.declared.reader.Span.{Span}
use Rattle.objects_reader.proofs.Lengths.{HeadIn, head_of_in}

pub nowhere_yet : (n k : ℕ) → get_or (replicate n nowhere) k nowhere ≡ nowhere
nowhere_yet zero k = refl
nowhere_yet (suc n) zero = refl
nowhere_yet (suc n) (suc k) = nowhere_yet n k

fresh-within : (n : ℕ) → Within n fresh
fresh-within n = record { places = refl; each = λ k. rw (nowhere_yet 13 k) (omega arith) }

spoilt-within : (n : ℕ) (r : Reading) (f : Fault) (at : ℕ) → Within n r → Within n (spoilt r f at)
spoilt-within n r f at w = record { places = w.places; each = w.each }

noted-within : (n : ℕ) (r : Reading) (start len : ℕ) → start + len ≤ n → Within n r → Within n (noted r start len)
noted-within n r start len h w =
    let a = w.places in
    let p : Span = record { at = start; len = len } in
    if_else_ind (Within n) (ltb r.n 13)
    (λ e. let l = ltb-true r.n 13 e in record {
      places = simp length-set a;
      each = λ k. by_cases (eqb k r.n)
          (λ f. rw (eqb-true k r.n f, get_or-set_same r.places r.n p nowhere (omega arith)) h)
          (λ f. rw (get_or-set_other r.places r.n k p nowhere (eqb-false k r.n f)) (w.each k));
    })
    (λ e. w)

-- by the head of the next object, which lies within the part
on_head-within : (n m : ℕ) (h : Head) (go : ℕ → ℕ → Reading) (none bad : Reading) → HeadIn 5 m h
    → ((start len : ℕ) → start + len ≤ m → Within n (go start len)) → Within n none → Within n bad → Within n (on_head h go none bad)
on_head-within n m (Ok (start, len)) go none bad i g p q = g start len i.1
on_head-within n m (Err NoTag) go none bad i g p q = p
on_head-within n m (Err NoLength) go none bad i g p q = q

-- a plain value, and what `go` reads behind it
value-within : (n t lo hi d base : ℕ) (s : List ℕ) (r none : Reading) (go : ℕ → List ℕ → Reading → Reading) → base + length s ≤ n → Within n r
    → ((b : ℕ) (u : List ℕ) (q : Reading) → b + length u ≤ n → Within n q → Within n (go b u q)) → Within n none
    → Within n (on_value t lo hi d base s r go none)
value-within n t lo hi d base s r none go h w g m =
    let bad = spoilt-within n r Length base w in
    if_else_ind (Within n) (eqb d 0) (λ e. spoilt-within n r Depth base w)
    (λ e. on_head-within n (length s) (head_of t s) _ _ _ (head_of_in t s)
    (λ start len i. if_else_ind (Within n) (ltb len lo) (λ a. bad) (λ a. if_else_ind (Within n) (ltb hi len) (λ b. bad)
    (λ b. g (base + (start + len)) (drop (start + len) s) _ (let l = length-drop (start + len) s in omega arith) (noted-within n r (base + start) len (omega arith) w))))
    m bad)

form_within : (n : ℕ) (f : Form) (d base : ℕ) (s : List ℕ) (r : Reading) → base + length s ≤ n → Within n r → Within n (read_form f d base s r)
unfolding read_form
form_within n done d base s r h w = if_else_ind (Within n) (eqb (length s) 0) (λ e. w) (λ e. spoilt-within n r _ base w)
form_within n (plain t lo hi f) d base s r h w =
    value-within n t lo hi d base s r _ (read_form f d) h w (form_within n f d) (spoilt-within n r _ base w)
form_within n (maybe t lo hi f) d base s r h w =
    value-within n t lo hi d base s r _ (read_form f d) h w (form_within n f d) (form_within n f d base s _ h (noted-within n r 0 0 (omega arith) w))
form_within n (nested t g f) d base s r h w =
    if_else_ind (Within n) (eqb d 0) (λ e. spoilt-within n r _ base w)
    (λ e. on_head-within n (length s) (head_of t s) _ _ _ (head_of_in t s)
    (λ start len i.
    let a = length-take len (drop start s) in
    let b = length-drop start s in
    let q = read_form g (d - 1) (base + start) (take len (drop start s)) r in
    let v = form_within n g (d - 1) (base + start) (take len (drop start s)) r (omega arith) w in
    if_else_ind (Within n) (is_clean q.fault) (λ c. form_within n f d (base + (start + len)) (drop (start + len) s) q (let l = length-drop (start + len) s in omega arith) v) (λ c. v))
    (spoilt-within n r _ base w) (spoilt-within n r _ base w))

pub all_within : (f : Form) (s : List ℕ) → Within (length s) (read_all f s)
all_within f s = form_within (length s) f 4 0 s fresh (omega arith) (fresh-within (length s))

pub read-within : (f : Form) (s : List ℕ) → Within (length s) (read_by f s)
unfolding read_by
read-within f s =
    if_else_ind (Within (length s)) (ltb 65535 (length s)) (λ e. spoilt-within _ fresh _ 0 (fresh-within (length s))) (λ e. all_within f s)

-- A string occurs in a list exactly where the list is something, the string, and something; and places where it does not stand. Read
-- before: specs/Window.antt. Exports `occurs_sound`, `occurs_complete`, `matches_sound`, `matches_complete`, `skip_to`.
use Prim.Native.Nat.{ℕ, zero, suc, ◌+◌, ◌-◌, ◌≤◌, ◌<◌}
use mathlib.Core.Path.{◌≡◌, refl, sym, ap, ◌∙◌}
use mathlib.Core.List.{List, [], ◌∷◌, ◌++◌}
use mathlib.Core.Bool.{true, false}
use native.Mathlib.Omega.{arith}
use native.Mathlib.Nat.{add-zero}
use lib.ListN.{length, drop}
use lib.Seq.{drop-drop}
use lib.Dec.{eqb}
use borrow.Author.Tests.{eq-eqb, eqb-true}
use Rattle.base.proofs.Cases.{by_cases, false-true}
use Rattle.machine_window.specs.Window.{begins, occurs_in, window_of, matches_in}

begins-short : (t l : List ℕ) → length l < length t → begins t l ≡ false
unfolding begins
begins-short [] l h = absurd (omega arith)
begins-short (a ∷ t) [] h = refl
begins-short (a ∷ t) (b ∷ l) h = by_cases (eqb b a) (λ e. simp e (begins-short t l (omega arith))) (λ e. simp e)

pub occurs_short : (t l : List ℕ) → length l < length t → occurs_in t l ≡ false
unfolding occurs_in
occurs_short t [] h = begins-short t [] h
occurs_short t (b ∷ l) h = simp (begins-short t (b ∷ l) h) (occurs_short t l (omega arith))

pub occurs_here : (t l : List ℕ) → begins t l ≡ true → occurs_in t l ≡ true
unfolding occurs_in
occurs_here t [] e = e
occurs_here t (b ∷ l) e = simp e

occurs_next : (t l : List ℕ) → begins t l ≡ false → occurs_in t l ≡ occurs_in t (drop 1 l)
unfolding occurs_in
occurs_next t [] e = refl
occurs_next t (b ∷ l) e = simp e

pub occurs_none : (t l : List ℕ) → length t ≡ 0 → occurs_in t l ≡ true
unfolding begins
occurs_none [] l e = occurs_here [] l refl
occurs_none (a ∷ t) l e = absurd (omega arith)

-- ---- places that are passed over

occurs_step : (t w : List ℕ) (j : ℕ) → begins t (drop j w) ≡ false → occurs_in t (drop (j + 1) w) ≡ occurs_in t (drop j w)
occurs_step t w j e = sym (occurs_next t (drop j w) e ∙ ap (occurs_in t) (drop-drop 1 j w))

skip : (t w : List ℕ) (d j : ℕ) → ((k : ℕ) → j ≤ k → k < j + d → begins t (drop k w) ≡ false) → occurs_in t (drop (j + d) w) ≡ occurs_in t (drop j w)
skip t w zero j h = simp add-zero
skip t w (suc d) j h =
    let e : j + suc d ≡ j + 1 + d = omega arith in
    ap (λ (x : ℕ). occurs_in t (drop x w)) e
    ∙ skip t w d (j + 1) (λ k a b. h k (omega arith) (omega arith))
    ∙ occurs_step t w j (h j (omega arith) (omega arith))

-- at none of the places the string stands
pub skip_to : (t w : List ℕ) (j r : ℕ) → j ≤ r → ((k : ℕ) → j ≤ k → k < r → begins t (drop k w) ≡ false) → occurs_in t (drop r w) ≡ occurs_in t (drop j w)
skip_to t w j r q h =
    let e : j + (r - j) ≡ r = omega arith in
    ap (λ (x : ℕ). occurs_in t (drop x w)) (sym e) ∙ skip t w (r - j) j (λ k a b. h k a (omega arith))

-- ---- something, the string, and something

-- what begins with t is t and a rest
begins-append : (t b : List ℕ) → begins t (t ++ b) ≡ true
unfolding begins
begins-append [] b = refl
begins-append (a ∷ t) b = simp (eq-eqb a a refl) (begins-append t b)

pub begins_split : (t l : List ℕ) → begins t l ≡ true → l ≡ t ++ drop (length t) l
unfolding begins
begins_split [] l e = refl
begins_split (a ∷ t) [] e = false-true e
begins_split (a ∷ t) (b ∷ l) e =
    by_cases (eqb b a)
    (λ f. let s = begins_split t l (simp f at e) in let h = eqb-true b a f in cc)
    (λ f. false-true (simp f at e))

pub record Occurs (t l : List ℕ) : Type 0 where
  pub before : List ℕ
  pub after : List ℕ
  pub is : l ≡ before ++ (t ++ after)

pub occurs_sound : (t l : List ℕ) → occurs_in t l ≡ true → Occurs t l
unfolding occurs_in
occurs_sound t [] e = record { before = []; after = drop (length t) []; is = begins_split t [] e }
occurs_sound t (b ∷ l) e =
    by_cases (begins t (b ∷ l))
    (λ f. record { before = []; after = drop (length t) (b ∷ l); is = begins_split t (b ∷ l) f })
    (λ f. let o = occurs_sound t l (simp f at e) in record { before = b ∷ o.before; after = o.after; is = ap (λ (x : List ℕ). b ∷ x) o.is })

pub occurs_complete : (t a b : List ℕ) → occurs_in t (a ++ (t ++ b)) ≡ true
unfolding occurs_in
occurs_complete t [] b = occurs_here t (t ++ b) (begins-append t b)
occurs_complete t (x ∷ a) b =
    by_cases (begins t (x ∷ (a ++ (t ++ b)))) (λ e. simp e) (λ e. simp e (occurs_complete t a b))

-- a record matches exactly where its window is something, the string, and something
module _ (r : List ℕ) (offset number : ℕ) (t : List ℕ) where
  pub matches_sound : matches_in r offset number t ≡ true → Occurs t (window_of r offset number)
  unfolding matches_in
  matches_sound e = occurs_sound t (window_of r offset number) e

  pub matches_complete : Occurs t (window_of r offset number) → matches_in r offset number t ≡ true
  unfolding matches_in
  matches_complete o = ap (occurs_in t) o.is ∙ occurs_complete t o.before o.after

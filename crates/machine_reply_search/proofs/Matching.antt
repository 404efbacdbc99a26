-- The numbers of the records that match: exactly those, ascending. Read specs/Found.antt before. Exports `matching_sound`,
-- `matching_complete`, `matching_ascends`, `first_match`, `hits-length`.
use Prim.Native.Nat.{ℕ, zero, suc, ◌+◌, ◌-◌, ◌≤◌, ◌<◌}
use mathlib.Core.Path.{◌≡◌, refl, sym, ap, subst, ◌∙◌}
use mathlib.Core.Bool.{Bool, true, false}
use mathlib.Core.Logic.{⊎_elim}
use mathlib.Core.List.{List, [], ◌∷◌, ◌++◌, append-nil, append_assoc}
use mathlib.Core.List.{Memᴰ}
use native.Mathlib.Omega.{arith}
use native.Mathlib.Numerals.{add-one}
use native.Mathlib.Nat.{add-zero, add-suc, eq-or-lt_of_le}
use lib.ListN.{length, get_or, take, length-append, length-take}
use lib.Seq.{get_or-take}
use Rattle.base.specs.Choice.{if_else}
use Rattle.base.proofs.Cases.{by_cases, if_else_ind, false-true}
use Rattle.machine_window.specs.Window.{matches_in}
use Rattle.store_records.specs.Body.{nth}
use Rattle.machine_reply_search.specs.Found.{is_match, matching_to, matching, hits}

-- each number of a list is above the one before it, and the first above b
abbrev pub Up : ℕ → List ℕ → Type 0
Up b [] = Unit {0}
Up b (x ∷ l) = (b < x) × Up x l

-- so none is below the first
up_least : (b : ℕ) (l : List ℕ) (n : ℕ) → Up b l → Memᴰ n l → b < n
up_least b [] n u m = absurd (mathlib.Core.List.Memᴰ.not-nil m)
up_least b (x ∷ l) n u m =
    ⊎_elim (λ e. omega (arith, u.0)) (λ t. omega (arith, u.0, up_least x l n u.1 t)) (mathlib.Core.List.Memᴰ.cases_cons m)

up_first : (x : ℕ) (l : List ℕ) (n : ℕ) → Up x l → Memᴰ n (x ∷ l) → x ≤ n
up_first x l n u m = ⊎_elim (λ e. omega arith) (λ t. omega (arith, up_least x l n u t)) (mathlib.Core.List.Memᴰ.cases_cons m)

up_weaken : (b c : ℕ) (l : List ℕ) → b ≤ c → Up c l → Up b l
up_weaken b c [] h u = tt
up_weaken b c (x ∷ l) h u = (omega (arith, u.0), u.1)

-- a list whose numbers are at most n, and one above n behind it
up_append : (b n : ℕ) (l k : List ℕ) → b ≤ n → Up b l → ((x : ℕ) → Memᴰ x l → x ≤ n) → Up n k → Up b (l ++ k)
up_append b n [] k h u f v = up_weaken b n k h v
up_append b n (x ∷ l) k h u f v = (u.0, up_append x n l k (f x (mathlib.Core.List.Memᴰ.head refl)) u.1 (λ y m. f y (mathlib.Core.List.Memᴰ.tail m)) v)

pub empty : (l : List ℕ) → length l ≡ 0 → l ≡ []
empty [] e = refl
empty (x ∷ l) e = absurd (omega arith)

no_member : (l : List ℕ) → ((n : ℕ) → Memᴰ n l → ⊥) → l ≡ []
no_member [] f = refl
no_member (x ∷ l) f = absurd (f x (mathlib.Core.List.Memᴰ.head refl))

module _ (rs : List (List ℕ)) (offset number : ℕ) (text : List ℕ) where
  abbrev pub up_to : ℕ → List ℕ
  up_to n = matching_to rs offset number text n

  abbrev pub hit : ℕ → List ℕ
  hit n = if_else (is_match rs offset number text n) (n ∷ []) []

  -- ---- one record more

  pub matching_hit : (n : ℕ) → is_match rs offset number text (n + 1) ≡ true → up_to (n + 1) ≡ up_to n ++ ((n + 1) ∷ [])
  unfolding matching_to
  matching_hit n e = rw add-one (let f : is_match rs offset number text (suc n) ≡ true = rw add-one at e in simp f)

  pub matching_miss : (n : ℕ) → is_match rs offset number text (n + 1) ≡ false → up_to (n + 1) ≡ up_to n
  unfolding matching_to
  matching_miss n e = rw add-one (let f : is_match rs offset number text (suc n) ≡ false = rw add-one at e in simp f (append-nil (up_to n)))

  hit_few : (n : ℕ) → length (hit n) ≤ 1
  hit_few n = by_cases (is_match rs offset number text n) (λ e. simp e (omega arith)) (λ e. simp e (omega arith))

  pub matching_few : (n : ℕ) → length (up_to n) ≤ n
  unfolding matching_to
  matching_few zero = omega arith
  matching_few (suc n) = omega (arith, length-append (up_to n) (hit (suc n)), matching_few n, hit_few (suc n))

  -- what the first k records give stands first in what more records give
  record More (k m : ℕ) : Type 0 where
    pub rest : List ℕ
    pub is : up_to m ≡ up_to k ++ rest

  more : (k d : ℕ) → More k (k + d)
  unfolding matching_to
  more k zero = record { rest = []; is = ap up_to (add-zero k) ∙ sym (append-nil (up_to k)) }
  more k (suc d) =
      let r = more k d in
      record {
        rest = r.rest ++ hit (suc (k + d));
        is = ap up_to (add-suc k d) ∙ ap (λ (l : List ℕ). l ++ hit (suc (k + d))) r.is ∙ append_assoc (up_to k) r.rest (hit (suc (k + d)));
      }

  -- where the first of them is known, it is the first of all
  pub matching-first : (k x : ℕ) → k ≤ length rs → up_to k ≡ x ∷ [] → take 1 (matching rs offset number text) ≡ x ∷ []
  unfolding matching
  matching-first k x h e =
      let m : ℕ = length rs in
      let q : k + (m - k) ≡ m = omega arith in
      let r = more k (m - k) in
      ap (λ (j : ℕ). take 1 (up_to j)) (sym q) ∙ ap (take 1) (r.is ∙ ap (λ (l : List ℕ). l ++ r.rest) e)

  -- ---- which numbers are among them

  hit-sound : (n x : ℕ) → Memᴰ x (hit n) → (x ≡ n) × (is_match rs offset number text n ≡ true)
  hit-sound n x m =
      by_cases (is_match rs offset number text n)
      (λ e. (mathlib.Core.List.Memᴰ.eq_of_singleton (subst (λ (b : Bool). Memᴰ x (if_else b (n ∷ []) [])) e m), e))
      (λ e. absurd (mathlib.Core.List.Memᴰ.not-nil (subst (λ (b : Bool). Memᴰ x (if_else b (n ∷ []) [])) e m)))

  to-sound : (n x : ℕ) → Memᴰ x (up_to n) → (1 ≤ x) × (x ≤ n) × (is_match rs offset number text x ≡ true)
  unfolding matching_to
  to-sound zero x m = absurd (mathlib.Core.List.Memᴰ.not-nil m)
  to-sound (suc n) x m =
      ⊎_elim
      (λ l. let s = to-sound n x l in (s.0, omega arith, s.2))
      (λ r. let s = hit-sound (suc n) x r in (omega arith, omega arith, ap (is_match rs offset number text) s.0 ∙ s.1))
      (mathlib.Core.List.Memᴰ.append_cases (up_to n) m)

  hit-complete : (n : ℕ) → is_match rs offset number text n ≡ true → Memᴰ n (hit n)
  hit-complete n e = subst (λ (b : Bool). Memᴰ n (if_else b (n ∷ []) [])) (sym e) (mathlib.Core.List.Memᴰ.head refl)

  to-complete : (n x : ℕ) → 1 ≤ x → x ≤ n → is_match rs offset number text x ≡ true → Memᴰ x (up_to n)
  unfolding matching_to
  to-complete zero x p q e = absurd (omega arith)
  to-complete (suc n) x p q e =
      ⊎_elim
      (λ z. mathlib.Core.List.Memᴰ.append_right (up_to n) (mathlib.Core.List.Memᴰ.cast z (hit-complete (suc n) (ap (is_match rs offset number text) (sym z) ∙ e))))
      (λ l. mathlib.Core.List.Memᴰ.append_left (hit (suc n)) (to-complete n x p (omega arith) e))
      (eq-or-lt_of_le {n = x} {m = suc n} q)

  -- n is among them exactly when there is a record n and it matches
  pub matching_sound : (n : ℕ) → Memᴰ n (matching rs offset number text) → (1 ≤ n) × (n ≤ length rs) × (matches_in (nth rs n) offset number text ≡ true)
  unfolding matching is_match
  matching_sound n m = to-sound (length rs) n m

  pub matching_complete : (n : ℕ) → 1 ≤ n → n ≤ length rs → matches_in (nth rs n) offset number text ≡ true → Memᴰ n (matching rs offset number text)
  unfolding matching is_match
  matching_complete n p q e = to-complete (length rs) n p q e

  -- there are at most as many as records
  pub matching-length : length (matching rs offset number text) ≤ length rs
  unfolding matching
  matching-length = matching_few (length rs)

  -- ---- their order

  hit-up : (n : ℕ) → Up n (hit (suc n))
  hit-up n = if_else_ind (Up n) (is_match rs offset number text (suc n)) (λ e. (omega arith, tt)) (λ e. tt)

  to-up : (n : ℕ) → Up 0 (up_to n)
  unfolding matching_to
  to-up zero = tt
  to-up (suc n) = up_append 0 n (up_to n) (hit (suc n)) (omega arith) (to-up n) (λ x m. (to-sound n x m).1) (hit-up n)

  -- each is above the one before it
  pub matching_ascends : Up 0 (matching rs offset number text)
  unfolding matching
  matching_ascends = to-up (length rs)

  -- ---- none, and the first

  pub matching-none : ((n : ℕ) → 1 ≤ n → n ≤ length rs → matches_in (nth rs n) offset number text ≡ false) → matching rs offset number text ≡ []
  matching-none f =
      no_member (matching rs offset number text) (λ n m. let s = matching_sound n m in false-true (sym (f n s.0 s.1) ∙ s.2))

  pub none-matching : matching rs offset number text ≡ [] → (n : ℕ) → 1 ≤ n → n ≤ length rs → matches_in (nth rs n) offset number text ≡ false
  none-matching e n p q =
      by_cases (matches_in (nth rs n) offset number text)
      (λ t. absurd (mathlib.Core.List.Memᴰ.not-nil (subst (λ (l : List ℕ). Memᴰ n l) e (matching_complete n p q t))))
      (λ t. t)

  -- the first of them matches, and no record before it does
  pub first_match : (x : ℕ) (l : List ℕ) → matching rs offset number text ≡ x ∷ l
      → (1 ≤ x) × (x ≤ length rs) × (matches_in (nth rs x) offset number text ≡ true) × ((n : ℕ) → 1 ≤ n → n < x → matches_in (nth rs n) offset number text ≡ false)
  first_match x l e =
      let s = matching_sound x (subst (λ (k : List ℕ). Memᴰ x k) (sym e) (mathlib.Core.List.Memᴰ.head refl)) in
      let u : Up 0 (x ∷ l) = subst (Up 0) e matching_ascends in (
        s.0,
        s.1,
        s.2,
        λ n p q. by_cases (matches_in (nth rs n) offset number text)
            (λ t. let m : Memᴰ n (x ∷ l) = subst (λ (k : List ℕ). Memᴰ n k) e (matching_complete n p (omega arith) t) in
            absurd (omega (arith, up_first x l n u.1 m)))
            (λ t. t),
      )

  -- ---- those that a reply lists

  -- the first of those listed is the first of all, there are none only where none matches, and no more than records
  pub hits-first : (one : Bool) → get_or (hits rs offset number text one) 0 0 ≡ get_or (matching rs offset number text) 0 0
  unfolding hits
  hits-first one = by_cases one (λ o. simp o (get_or-take 1 (matching rs offset number text) 0 0 (omega arith))) (λ o. simp o)

  pub hits-none : (one : Bool) → length (hits rs offset number text one) ≡ 0 → matching rs offset number text ≡ []
  unfolding hits
  hits-none one e =
      by_cases one
      (λ o. empty (matching rs offset number text) (omega (arith, length-take 1 (matching rs offset number text), simp o at e)))
      (λ o. empty (matching rs offset number text) (simp o at e))

  pub none-hits : (one : Bool) → matching rs offset number text ≡ [] → hits rs offset number text one ≡ []
  unfolding hits
  none-hits one e = by_cases one (λ o. simp (o, e)) (λ o. simp (o, e))

  pub hits-length : (one : Bool) → length (hits rs offset number text one) ≤ length rs
  unfolding hits
  hits-length one =
      by_cases one
      (λ o. simp o (omega (arith, length-take 1 (matching rs offset number text), matching-length)))
      (λ o. simp o matching-length)

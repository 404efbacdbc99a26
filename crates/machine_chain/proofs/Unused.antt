-- Bytes that are zero. Read specs/Layout.antt before. Exports `zeros_more` (a turn of the loop), `zeros-at`, `zeros_are`.
use Prim.Native.Nat.{ℕ, zero, suc, ◌+◌, ◌<◌}
use mathlib.Core.Path.{◌≡◌, refl, sym, ap, ◌∙◌}
use mathlib.Core.Bool.{Bool, true, false, ◌&&◌}
use mathlib.Core.List.{List}
use native.Mathlib.Omega.{arith}
use native.Mathlib.Numerals.{unary_clauses}
use lib.ListN.{get_or}
use lib.Dec.{eqb}
use lib.Bits.{bit_or, or_zero_l}
use Rattle.std.proofs.lemmas.Nat.{le_or_l}
use borrow.Author.Tests.{eqb-true, eq-eqb, ne_eqb}
use Rattle.base.proofs.Cases.{by_cases, and_left, and_right, false-true}
use Rattle.machine_chain.specs.Layout.{zero_run}

-- the bits of both are none where both are zero
both_zero : (m b : ℕ) → eqb (bit_or m b) 0 ≡ (eqb m 0 && eqb b 0)
both_zero zero b = rw (or_zero_l b) refl
both_zero (suc m) b =
    rw (ne_eqb (bit_or (suc m) b) 0 (λ e. absurd (omega (arith, le_or_l (suc m) b))), ne_eqb (suc m) 0 (λ e. absurd (omega arith))) refl

-- a turn of the loop
pub zeros_more : (xs : List ℕ) (a i m : ℕ) → eqb m 0 ≡ zero_run xs a i
    → eqb (bit_or m (get_or xs (a + i) 0)) 0 ≡ zero_run xs a (i + 1)
unfolding zero_run
zeros_more xs a i m e = simp unary_clauses (both_zero m (get_or xs (a + i) 0) ∙ ap (λ (t : Bool). t && eqb (get_or xs (a + i) 0) 0) e)

-- each of them is zero, and where each is they are
pub zeros-at : (xs : List ℕ) (a n : ℕ) → zero_run xs a n ≡ true → (i : ℕ) → i < n → get_or xs (a + i) 0 ≡ 0
unfolding zero_run
zeros-at xs a zero e i h = absurd (omega arith)
zeros-at xs a (suc n) e i h =
    by_cases (eqb i n)
    (λ t. rw (eqb-true i n t) (eqb-true _ 0 (and_right (zero_run xs a n) _ e)))
    (λ t. zeros-at xs a n (and_left (zero_run xs a n) _ e) i (below t))
  where
    below : eqb i n ≡ false → i < n
    below t = by_cases (eqb i n) (λ y. false-true (sym t ∙ y)) (λ y. omega (arith, h, ne i n t))
      where
        ne : (x y : ℕ) → eqb x y ≡ false → (x ≡ y → ⊥)
        ne x y f z = false-true (sym f ∙ eq-eqb x y z)

pub zeros_are : (xs : List ℕ) (a n : ℕ) → ((i : ℕ) → i < n → get_or xs (a + i) 0 ≡ 0) → zero_run xs a n ≡ true
unfolding zero_run
zeros_are xs a zero h = refl
zeros_are xs a (suc n) h = rw (zeros_are xs a n (λ i l. h i (omega arith))) (eq-eqb _ 0 (h n (omega arith)))

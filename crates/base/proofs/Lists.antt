-- A list that grows at its end: g n has the n elements f 0, f 1, and so on. Exports `grown_length`, `grown_at`.
use Prim.Native.Nat.{ℕ, zero, suc, ◌+◌, ◌-◌, ◌<◌}
use mathlib.Core.Path.{◌≡◌, ap, ◌∙◌}
use mathlib.Core.List.{List, [], ◌∷◌, ◌++◌}
use native.Mathlib.Omega.{arith}
use lib.ListN.{length, get_or, length-append, get_or-append}
use lib.Seq.{get_or-append-add}

module _ {A : Type 0} (f : ℕ → A) (g : ℕ → List A) (start : g 0 ≡ []) (next : (n : ℕ) → g (suc n) ≡ g n ++ (f n ∷ [])) where
  pub grown_length : (n : ℕ) → length (g n) ≡ n
  grown_length zero = ap length start
  grown_length (suc n) = ap length (next n) ∙ length-append (g n) (f n ∷ []) ∙ (let e = grown_length n in omega arith)

  -- an element stays where it is when the list goes on
  stays : (d : A) (i k : ℕ) → get_or (g (suc (i + k))) i d ≡ f i
  stays d i zero =
      let z : i + 0 ≡ i = omega arith in
      let e : i ≡ length (g i) + 0 = (let l = grown_length i in omega arith) in
      ap (λ (m : ℕ). get_or (g (suc m)) i d) z
      ∙ ap (λ (l : List A). get_or l i d) (next i)
      ∙ ap (λ (j : ℕ). get_or (g i ++ (f i ∷ [])) j d) e
      ∙ get_or-append-add (g i) (f i ∷ []) 0 d
  stays d i (suc k) =
      let z : i + suc k ≡ suc (i + k) = omega arith in
      ap (λ (m : ℕ). get_or (g (suc m)) i d) z
      ∙ ap (λ (l : List A). get_or l i d) (next (suc (i + k)))
      ∙ get_or-append (g (suc (i + k))) (f (suc (i + k)) ∷ []) d i (let l = grown_length (suc (i + k)) in omega arith)
      ∙ stays d i k

  pub grown_at : (d : A) (n i : ℕ) → i < n → get_or (g n) i d ≡ f i
  grown_at d n i h =
      let e : n ≡ suc (i + (n - suc i)) = omega arith in
      ap (λ (m : ℕ). get_or (g m) i d) e ∙ stays d i (n - suc i)

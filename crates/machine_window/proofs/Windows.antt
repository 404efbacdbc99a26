-- Windows, each as the code cuts it. Read before: specs/Window.antt. Exports `window_rest` and `window_cut`, one law for each way out.
use Prim.Native.Nat.{ℕ, ◌-◌, min}
use mathlib.Core.Path.{◌≡◌, ap, ◌∙◌}
use mathlib.Core.List.{List}
use lib.ListN.{length, take, drop}
use borrow.Author.Tests.{eq-eqb, ne_eqb}
use Rattle.std.proofs.lemmas.List.{take_min, drop_min}
use Rattle.base.specs.Bytes.{part}
use Rattle.base.proofs.Parts.{rest}
use Rattle.machine_window.specs.Window.{window_of}

-- k is where the window begins: the offset, cut at the record's end
module _ (l : List ℕ) (offset number k : ℕ) (e : k ≡ min offset (length l)) where
  tail : part l k (length l - k) ≡ drop offset l
  tail = rest k l ∙ ap (λ n. drop n l) e ∙ drop_min offset l

  -- to the record's end
  pub window_rest : number ≡ 0 → part l k (length l - k) ≡ window_of l offset number
  unfolding window_of
  window_rest z = simp (eq-eqb number 0 z) tail

  -- its first bytes, as many as the number asks for
  pub window_cut : (number ≡ 0 → ⊥) → (n : ℕ) → n ≡ min number (length (part l k (length l - k)))
      → take n (part l k (length l - k)) ≡ window_of l offset number
  unfolding window_of
  window_cut z n f = simp (ne_eqb number 0 z) (ap (λ m. take m (part l k (length l - k))) f ∙ take_min number _ ∙ ap (take number) tail)

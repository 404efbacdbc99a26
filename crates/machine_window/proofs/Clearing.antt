-- Places at which a string does not stand. Read before: specs/Loops.antt. Exports `two_tell` (two bytes that tell it) and the laws of
-- `Clear`.
use Prim.Native.Nat.{ℕ, ◌+◌, ◌<◌}
use mathlib.Core.Path.{◌≡◌, sym, ap, subst, ◌∙◌}
use mathlib.Core.Bool.{◌&&◌}
use mathlib.Core.Logic.{⊎_elim}
use mathlib.Core.List.{List}
use native.Mathlib.Omega.{arith}
use native.Mathlib.Nat.{add-zero, eq-or-lt_of_le}
use lib.ListN.{length, get_or}
use lib.Dec.{eqb}
use borrow.Author.Tests.{eq-eqb, eqb-true}
use Rattle.base.proofs.Cases.{false-true, and_left}
use Rattle.machine_window.specs.Loops.{Stand, Likely, Clear}

-- two bytes of a string tell
pub two_tell : (w t : List ℕ) (p y : ℕ) → y < length t → Likely w t p (eqb (get_or w p 0) (get_or t 0 0) && eqb (get_or w (p + y) 0) (get_or t y 0))
two_tell w t p y h = record {
  first = λ e. eqb-true (get_or w p 0) (get_or t 0 0) (and_left _ _ e);
  never = λ e s.
      let f = eq-eqb (get_or w p 0) (get_or t 0 0) (ap (λ (x : ℕ). get_or w x 0) (sym (add-zero p)) ∙ s 0 (omega arith)) in
      let g = eq-eqb (get_or w (p + y) 0) (get_or t y 0) (s y h) in
      false-true (sym (simp (f, g) at e));
}

module _ {w t : List ℕ} {from : ℕ} where
  pub clear_more : {m n : ℕ} → n ≡ m + 1 → Clear w t from m → (Stand w t m (length t) → ⊥) → Clear w t from n
  clear_more {m} h f g = record {
    none = λ k a b s. ⊎_elim
        (λ e. g (subst (λ (x : ℕ). Stand w t x (length t)) e s))
        (λ z. f.none k a z s)
        (eq-or-lt_of_le {n = k} {m = m} (omega arith));
  }

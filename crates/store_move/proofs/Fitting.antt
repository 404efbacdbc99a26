-- Contents and their rooms: the first rows fit, and so do all.
-- Read before: specs/Moving.antt. Exports: `roomy-…` (the loop, and each row where all fit).
use Prim.Native.Nat.{ℕ, zero, suc, ◌+◌, ◌<◌, min}
use mathlib.Core.Path.{◌≡◌, refl, sym, ap, ap₂, ◌∙◌}
use mathlib.Core.Bool.{true, false, and-false}
use mathlib.Core.List.{List}
use mathlib.Core.Logic.{⊎_elim}
use native.Mathlib.Omega.{arith}
use native.Mathlib.Numerals.{add-one}
use native.Mathlib.Nat.{eq-or-lt_of_le}
use lib.ListN.{length, length-take}
use lib.Dec.{leb}
use borrow.Author.Tests.{leb-true}
use Rattle.base.proofs.Cases.{by_cases, false-true}
use Rattle.store_image.specs.Image.{body}
use Rattle.store_move_plan.specs.Rooms.{rows, row_room, row_kind}
use Rattle.store_move_plan.proofs.Search.{Fits}
use Rattle.store_move.specs.Moving.{content_length, content, roomy_to, roomy}

module _ (old list : List ℕ) where
  pub roomy-start : roomy_to old list 0 ≡ true
  unfolding roomy_to
  roomy-start = refl

  pub roomy_end : (i : ℕ) → i ≡ rows list → roomy_to old list i ≡ true → true ≡ roomy old list
  unfolding roomy
  roomy_end i e h = sym (ap (roomy_to old list) (sym e) ∙ h)

  -- one row that does not fit spoils all
  spoils : (n i : ℕ) → i < n → leb (length (content old (row_kind list i))) (row_room list i) ≡ false → roomy_to old list n ≡ false
  unfolding roomy_to
  spoils zero i h e = absurd (omega arith)
  spoils (suc n) i h e =
      ⊎_elim
      (λ q. let f : leb (length (content old (row_kind list n))) (row_room list n) ≡ false = rw (← q) e in simp (f, and-false))
      (λ g. simp (spoils n i g e))
      (eq-or-lt_of_le {n = i} {m = n} (omega arith))

  -- as the code has the row's kind j and the length l of its room
  module _ (i j l : ℕ) (ej : j ≡ row_kind list i) (el : l ≡ row_room list i) where
    same : leb (length (content old j)) l ≡ leb (length (content old (row_kind list i))) (row_room list i)
    same = ap₂ (λ (k n : ℕ). leb (length (content old k)) n) ej el

    pub roomy-refused : i < rows list → leb (length (content old j)) l ≡ false → false ≡ roomy old list
    unfolding roomy
    roomy-refused h g = sym (spoils (rows list) i h (sym same ∙ g))

    pub roomy_next : roomy_to old list i ≡ true → leb (length (content old j)) l ≡ true → roomy_to old list (i + 1) ≡ true
    unfolding roomy_to
    roomy_next r g = rw add-one (simp (r, sym same ∙ g))

  -- where all fit, each does
  pub roomy-at : roomy old list ≡ true → Fits (content old) list
  unfolding roomy
  roomy-at r i h =
      by_cases (leb (length (content old (row_kind list i))) (row_room list i))
      (λ y. leb-true _ _ y)
      (λ n. false-true (sym (spoils (rows list) i h n) ∙ r))

-- a file whose body is b: all of it fits, or what is busy of it
module _ (old : List ℕ) (k room : ℕ) (b : List ℕ) (eb : b ≡ body old k) where
  part_length : length (content old k) ≡ min (content_length k b) (length b)
  unfolding content
  part_length = rw eb (length-take (content_length k (body old k)) (body old k))

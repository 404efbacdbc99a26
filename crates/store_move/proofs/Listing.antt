-- A walk over the old image that asks for a row of each kind: what is left to pass answers for the whole.
-- Read before: specs/Moving.antt. Exports: `Listing`, `list_start`, `list_end`, `list_missing`, `list_next`.
use Prim.Native.Nat.{ℕ, zero, suc, ◌+◌, ◌≤◌, ◌<◌}
use mathlib.Core.Path.{◌≡◌, refl, sym, ap, ◌∙◌}
use mathlib.Core.Bool.{Bool, true, false, ◌&&◌}
use mathlib.Core.List.{List}
use native.Mathlib.Omega.{arith}
use lib.ListN.{length}
use borrow.Author.Tests.{le-leb, lt-leb}
use Rattle.store_image.specs.Image.{len_at, kind_at, end_at, has}
use Rattle.store_move_plan.specs.Rooms.{blank}
use Rattle.store_move.specs.Moving.{lists_from, lists}

module _ (old list : List ℕ) where
  pub record Listing (p : ℕ) : Type 0 where
    pub fuel : ℕ
    pub enough : length old ≤ p + fuel
    pub same : lists old list ≡ lists_from fuel old p list

  pub list_start : Listing 0
  unfolding lists
  list_start = record { fuel = length old; enough = omega arith; same = refl }

  past : (n p : ℕ) → length old ≤ p → lists_from n old p list ≡ true
  unfolding lists_from
  past zero p h = refl
  past (suc n) p h = simp (le-leb _ _ h)

  step : (n p : ℕ) → length old ≤ p + n → p < length old
      → (m : ℕ) × (length old ≤ p + 1 + m) × (lists_from n old p list ≡ (has (blank list) (kind_at old p) && lists_from m old (end_at old p) list))
  unfolding lists_from
  step zero p e h = absurd (omega arith)
  step (suc n) p e h = (n, omega arith, simp (lt-leb _ _ h))

  module _ (p : ℕ) (s : Listing p) where
    pub list_end : length old ≤ p → true ≡ lists old list
    list_end h = sym (s.same ∙ past s.fuel p h)

    -- as the code has the section's kind j and its length l
    module _ (h : p < length old) (j : ℕ) (ej : j ≡ kind_at old p) where
      turn : (m : ℕ) × (length old ≤ p + 1 + m) × (lists_from s.fuel old p list ≡ (has (blank list) (kind_at old p) && lists_from m old (end_at old p) list))
      turn = step s.fuel p s.enough h

      by : (b : Bool) → has (blank list) j ≡ b → lists old list ≡ (b && lists_from turn.0 old (end_at old p) list)
      by b e =
          s.same ∙ turn.2 ∙ ap (λ (x : Bool). x && lists_from turn.0 old (end_at old p) list) (ap (has (blank list)) (sym ej) ∙ e)

      pub list_missing : has (blank list) j ≡ false → false ≡ lists old list
      list_missing e = sym (by false e)

      pub list_next : (l : ℕ) → l ≡ len_at old p → has (blank list) j ≡ true → Listing (p + 6 + l)
      list_next l el e = rw el (record { fuel = turn.0; enough = omega (arith, turn.1); same = by true e })

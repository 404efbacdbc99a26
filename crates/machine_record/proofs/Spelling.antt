-- The two spellings of a short id in a search mean the same file. Read specs/SearchRecord.antt before. Exports `search_named_alike`.
use Prim.Native.Nat.{ℕ, ◌*◌, ◌%◌}
use mathlib.Core.Path.{◌≡◌, ap, sym, ◌∙◌}
use mathlib.Core.List.{[], ◌∷◌}
use native.Mathlib.Omega.{arith}
use borrow.Author.Tests.{eq-eqb, ne_eqb}
use Rattle.machine_session.specs.declared.Named.TheVariants.{Short}
use Rattle.machine_record.specs.SearchRecord.{search_short, search_named}

module _ (y : ℕ) where
  -- the short id itself
  spelled-plain : (y % 8 ≡ 0 → ⊥) → search_short y ≡ y
  unfolding search_short
  spelled-plain n = simp (ne_eqb (y % 8) 0 n)

  -- the short id in b8 to b4, with 000 behind it
  spelled-high : search_short (8 * y) ≡ y
  unfolding search_short
  spelled-high = simp (eq-eqb (8 * y % 8) 0 (omega arith)) (omega arith)

  pub search_named_alike : (y % 8 ≡ 0 → ⊥) → search_named (8 * y ∷ []) ≡ search_named (y ∷ [])
  unfolding search_named
  search_named_alike n = ap Short (spelled-high ∙ sym (spelled-plain n))

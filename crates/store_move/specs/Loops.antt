-- Not to be believed: only contracts of private functions and proofs cite this.
-- A place in the old image, for the functions that walk over it.
use Rattle.std.specs.Prelude.{ℕ, ◌+◌, ◌≤◌, ◌<◌, ◌≡◌, Bool, true, List, [], ◌∷◌, length, ltb, eqb}
use Rattle.base.specs.Choice.{all_of}
use Rattle.store_image.specs.Image.{kind_at, find_from, find, sections_ok}

-- the sections from p on are right, behind one of kind `last`; and each greater kind is found among them or not at all
pub record Standing (old : List ℕ) (p : ℕ) : Type 0 where
  pub last : ℕ
  pub fuel : ℕ
  pub enough : length old ≤ p + fuel
  pub right : sections_ok fuel old p last ≡ true
  pub ahead : (k : ℕ) → last < k → find old k ≡ find_from fuel old p k

-- the section at p is of kind k
unfoldable pub meets : List ℕ → ℕ → ℕ → Bool
meets old p k = all_of (ltb p (length old) ∷ eqb (kind_at old p) k ∷ [])

-- Not to be believed: only contracts of private functions and proofs cite this.
-- What the search for a string keeps track of.
use Rattle.std.specs.Prelude.{ℕ, ◌+◌, ◌-◌, ◌≤◌, ◌<◌, ◌≡◌, Bool, true, false, List, length, get_or}

-- the first k bytes of t stand in w from p on
abbrev pub Stand : List ℕ → List ℕ → ℕ → ℕ → Type 0
Stand w t p k = (i : ℕ) → i < k → get_or w (p + i) 0 ≡ get_or t i 0

-- r says whether t may stand in w at p, by some of its bytes, the first among them
pub record Likely (w t : List ℕ) (p : ℕ) (r : Bool) : Type 0 where
  pub first : r ≡ true → get_or w p 0 ≡ get_or t 0 0
  pub never : r ≡ false → Stand w t p (length t) → ⊥

-- t stands in w at no place from `from` on before r
pub record Clear (w t : List ℕ) (from r : ℕ) : Type 0 where
  pub none : (k : ℕ) → from ≤ k → k < r → Stand w t k (length t) → ⊥

-- r is past the places at which t does not stand; there, where enough bytes are left, its first byte stands
pub record PassedTo (w t : List ℕ) (from r : ℕ) : Type 0 where
  pub low : from ≤ r
  pub clear : Clear w t from r
  pub found : r + length t ≤ length w → get_or w r 0 ≡ get_or t 0 0

-- of t the first r bytes, at least q, stand in w from p on, and not one more
pub record Ran (w t : List ℕ) (p q r : ℕ) : Type 0 where
  pub low : q ≤ r
  pub high : r ≤ length t
  pub stands : Stand w t p r
  pub stops : r < length t → get_or w (p + r) 0 ≡ get_or t r 0 → ⊥

-- s is the least number of places by which the first q bytes of t can be moved on over themselves
pub record Least (t : List ℕ) (q s : ℕ) : Type 0 where
  pub low : 1 ≤ s
  pub high : s ≤ q
  pub stands : Stand t t s (q - s)
  pub least : (d : ℕ) → 0 < d → d < s → Stand t t d (q - d) → ⊥

-- the table has this number for each q up to k
abbrev pub Filled : List ℕ → List ℕ → ℕ → Type 0
Filled t table k = (q : ℕ) → 1 ≤ q → q ≤ k → Least t q (get_or table q 0)

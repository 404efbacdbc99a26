-- The window of a record, and whether a string stands in it. How the code looks for the string is no part of this: see Loops.antt.
use Rattle.std.specs.Prelude.{ℕ, Bool, true, false, List, [], ◌∷◌, drop, take, eqb}
use Rattle.base.specs.Choice.{if_else}

-- l begins with t [Q7]
unfoldable pub begins : List ℕ → List ℕ → Bool
begins [] l = true
begins (a ∷ t) [] = false
begins (a ∷ t) (b ∷ l) = if_else (eqb b a) (begins t l) false

-- t stands in l, from one of its places on [Q7]
unfoldable pub occurs_in : List ℕ → List ℕ → Bool
occurs_in t [] = begins t []
occurs_in t (b ∷ l) = if_else (begins t (b ∷ l)) true (occurs_in t l)

-- the window: number bytes from offset on, all of them where the number is 0, cut at the record's end; empty where the record is shorter
-- than the offset [Q6]
unfoldable pub window_of : List ℕ → ℕ → ℕ → List ℕ
window_of r offset number = if_else (eqb number 0) (drop offset r) (take number (drop offset r))

-- a record matches when the string stands anywhere in its window [Q7]
unfoldable pub matches_in : List ℕ → ℕ → ℕ → List ℕ → Bool
matches_in r offset number text = occurs_in text (window_of r offset number)

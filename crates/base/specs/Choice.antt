-- A choice by a test, and tests that must all hold.
use Rattle.std.specs.Prelude.{Bool, true, false, ◌&&◌, List, [], ◌∷◌}

-- a where the test holds, else b [V10]
abbrev pub if_else : {A : Type 0} → Bool → A → A → A
if_else true a b = a
if_else false a b = b

-- each of the tests holds [V10]
unfoldable pub all_of : List Bool → Bool
all_of [] = true
all_of (t ∷ ts) = t && all_of ts

-- Not to be believed: only contracts of private functions and proofs cite this.
use Rattle.std.specs.Prelude.{ℕ, ◌≡◌, true, List}
use Rattle.store_kinds.specs.Rules.{application_of}
use Rattle.store_image.specs.Image.{present}

-- the application of the section before, of kind `last`, is present; `last` is 0 where there is none before
abbrev pub present_behind : List ℕ → ℕ → Type 0
present_behind img last = (last ≡ 0 → ⊥) → present img (application_of last) ≡ true

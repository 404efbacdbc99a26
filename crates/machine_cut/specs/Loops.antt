-- Not to be believed: only contracts of private functions and proofs cite this.
use Rattle.std.specs.Prelude.{ℕ, ◌≡◌, List, Option}
use Rattle.machine_cut.specs.Cutting.{cut_stores, cut_image}
use Rattle.store_cut.specs.declared.Writing.{Writing}

-- how many stores there are, and the image after the first n
abbrev pub Cuts : ℕ → Option (ℕ × Writing) → List ℕ → List ℕ → ℕ → List ℕ → Type 0
Cuts n t img d r last = (r ≡ cut_stores t img d) × (last ≡ cut_image n t img d)

-- Not to be believed: only contracts of private functions and proofs cite this.
use Rattle.std.specs.Prelude.{ℕ, ◌≡◌, true, List, Some}
use Rattle.store_kinds.specs.Rules.{rule_of}
use Rattle.store_kinds.specs.declared.rules.Key.TheVariants.{Kind}
use Rattle.store_kinds.specs.declared.rules.Rule.{Rule}
use Rattle.store_image.specs.Image.{has}

-- the record file of a rule stands in the image
pub record Stored (img : List ℕ) (r : Rule) : Type 0 where
  pub by_kind : rule_of (Kind r.kind) ≡ Some r
  pub stands : has img r.kind ≡ true

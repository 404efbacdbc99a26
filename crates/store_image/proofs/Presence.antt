-- An application that is present in an image: the laws of `present_by` at the image's kinds.
-- Read before: specs/Image.antt, store_kinds' Presence. Exports: `present-has`, `present-same`.
use Prim.Native.Nat.{ℕ}
use mathlib.Core.Path.{◌≡◌}
use mathlib.Core.Bool.{true}
use mathlib.Core.List.{List}
use Rattle.store_kinds.specs.Rules.{rule_of}
use Rattle.store_kinds.specs.declared.rules.Key.{Key}
use Rattle.store_kinds.specs.declared.rules.Rule.{Rule}
use Rattle.store_kinds.proofs.Presence.{present_by-has, present_by-same}
use Rattle.store_image.specs.Image.{has, present}
use Rattle.std.specs.Prelude.{Some}

-- the record files of an application that is present are there
pub present-has : (img : List ℕ) (key : Key) (r : Rule) → rule_of key ≡ Some r → present img r.application ≡ true → has img r.kind ≡ true
unfolding present
present-has img = present_by-has (has img)

-- images that have the same files have the same applications
pub present-same : (img new : List ℕ) → ((k : ℕ) → has new k ≡ has img k) → (a : ℕ) → present new a ≡ present img a
unfolding present
present-same img new = present_by-same (has img) (has new)

-- Tests in order, each with the answer that its failure gives: how the ten steps of a command stand.
use Rattle.std.specs.Prelude.{Bool, List, [], ◌∷◌}
use Rattle.base.specs.Choice.{if_else}

-- the answer of the first test that fails; the last answer where none fails [O11]
unfoldable pub in_order : {A : Type 0} → List (Bool × A) → A → A
in_order [] a = a
in_order (c ∷ cs) a = if_else c.0 (in_order cs a) c.1

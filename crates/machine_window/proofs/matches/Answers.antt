-- The string occurs in the record's window.
use mathlib.Core.Path.{ap, ◌∙◌}
use Rattle.machine_window.specs.Window.{occurs_in, matches_in}
use Rattle.machine_window.proofs.matches.Goals as goal

pub returns : goal.returns
unfolding matches_in
returns c = c.occurs.ensures ∙ ap (occurs_in _) c.window.ensures

-- Each way out cuts the window as its definition does.
use Rattle.machine_window.proofs.Windows.{window_rest, window_cut}
use Rattle.machine_window.proofs.window.Goals as goal

pub returns-then-number-eq0 : goal.returns-then-number-eq0
returns-then-number-eq0 c = window_rest _ _ _ _ c.min.ensures c.if-number-eq0.true

pub returns : goal.returns
returns c = window_cut _ _ _ _ c.min.ensures c.if-number-eq0.false _ c.min-2.ensures

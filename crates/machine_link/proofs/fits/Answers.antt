-- `machine_link::fits` meets its contract.
use mathlib.Core.Path.{sym, ◌∙◌}
use Rattle.machine_link.proofs.Fitting.{none-fits, some_fits}
use Rattle.machine_link.proofs.fits.Goals as goal

pub returns-then-not-is_amid : goal.returns-then-not-is_amid
returns-then-not-is_amid c = simp c.if-not-is_amid.true (none-fits _ (sym c.is_chain.ensures ∙ c.if-is_chain.true) (sym c.is_amid.ensures ∙ c.if-not-is_amid.true))

pub returns-else-not-is_amid : goal.returns-else-not-is_amid
returns-else-not-is_amid c = c.fit.ensures ∙ some_fits _ (sym c.is_chain.ensures ∙ c.if-is_chain.true) (sym c.is_amid.ensures ∙ c.if-not-is_amid.false) c.byte.ensures.0 c.byte-else-not-is_amid.ensures.0 c.byte-else-not-is_amid-2.ensures.0

-- `store_index::record_file_ok` meets its contract.
use mathlib.Core.Path.{sym, ap, ◌∙◌}
use mathlib.Core.Bool.{not}
use Rattle.store_index.proofs.Places.{record_file_ok-biometrics, record_file_ok-kind}
use Rattle.store_index.proofs.record_file_ok.Goals as goal

pub returns-then-not-is_biometrics : goal.returns-then-not-is_biometrics
returns-then-not-is_biometrics c = c.kind_ok.ensures ∙ record_file_ok-kind _ _ (sym c.is_biometrics.ensures ∙ c.if-not-is_biometrics.true)

pub returns-else-not-is_biometrics : goal.returns-else-not-is_biometrics
returns-else-not-is_biometrics c = ap not c.if-not-is_biometrics.false ∙ sym (record_file_ok-biometrics _ _ (sym c.is_biometrics.ensures ∙ c.if-not-is_biometrics.false))

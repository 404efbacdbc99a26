-- `keep` asks which extension it is, and keeps a known one.
use Rattle.objects_extensions.proofs.Steps.{gave, gave_as, keep_travel, keep_visa, keep_biometrics, keep_unknown}
use Rattle.objects_extensions.proofs.keep.Goals as goal

pub returns-then-is_for : goal.returns-then-is_for
returns-then-is_for c = gave_as (keep_travel _ _ _ c.is_for.ensures c.if-is_for.true) c.keep_known.ensures

pub returns-then-is_for-2 : goal.returns-then-is_for-2
returns-then-is_for-2 c = gave_as (keep_visa _ _ _ c.is_for.ensures c.if-is_for.false c.is_for-else-is_for.ensures c.if-is_for-2.true) c.keep_known-then-is_for-2.ensures

pub returns-then-is_for-3 : goal.returns-then-is_for-3
returns-then-is_for-3 c = gave_as (keep_biometrics _ _ _ c.is_for.ensures c.if-is_for.false c.is_for-else-is_for.ensures c.if-is_for-2.false c.is_for-else-is_for-2.ensures c.if-is_for-3.true) c.keep_known-then-is_for-3.ensures

pub returns-else-is_for-3 : goal.returns-else-is_for-3
returns-else-is_for-3 c = gave (keep_unknown _ _ _ c.is_for.ensures c.if-is_for.false c.is_for-else-is_for.ensures c.if-is_for-2.false c.is_for-else-is_for-2.ensures c.if-is_for-3.false)

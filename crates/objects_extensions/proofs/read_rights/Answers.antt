-- `read_rights` asks for room, and writes zeros where a run has a fault.
use Rattle.objects_extensions.proofs.Chains.{rights-short, rights-fault, rights-whole}
use Rattle.objects_extensions.proofs.read_rights.Goals as goal

pub returns-then-rights-lt60 : goal.returns-then-rights-lt60
returns-then-rights-lt60 c = rights-short _ _ _ _ c.if-rights-lt60.true

pub returns-in-Err : goal.returns-in-Err
returns-in-Err c = rights-fault _ _ _ _ c.if-rights-lt60.false c.three_runs.ensures c.in-Err.is c.put.ensures.1

pub returns : goal.returns
returns c = rights-whole _ _ _ _ c.if-rights-lt60.false c.three_runs.ensures c.in_default.is

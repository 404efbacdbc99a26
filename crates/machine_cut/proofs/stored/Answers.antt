-- `machine_cut::stored` meets its contract.
use Rattle.machine_cut.proofs.Cutting.{stored-append, stored-activate, stored-class, stored_other}
use Rattle.machine_cut.proofs.stored.Goals as goal

pub returns-then-f-ne0 : goal.returns-then-f-ne0
returns-then-f-ne0 c = stored-class _ _ _ _ c.requires c.if-f-ne0.true

pub returns-in-226 : goal.returns-in-226
returns-in-226 c = stored-append _ _ _ _ c.if-f-ne0.false c.in-226.is c.append_record.ensures c.storing.ensures

pub returns-in-68 : goal.returns-in-68
returns-in-68 c = stored-activate _ _ _ _ c.if-f-ne0.false c.in-68.is c.activate_file.ensures c.storing-in-68.ensures

pub returns-in_default : goal.returns-in_default
returns-in_default c = let r = c.in_default.in_default-own.rest in stored_other _ _ _ _ c.requires r.0.1 r.1

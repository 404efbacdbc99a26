-- `read_offset_object` reads by the row of an offset.
use mathlib.Core.Path.{ap}
use lib.Dec.{lit<}
use Rattle.objects_templates.proofs.Answers.{read_by-in, read_as-accepted, read_as-refused}
use Rattle.objects_templates.specs.OffsetObject.{offset_form, offset_of, read_offset_object}
use Rattle.objects_reader.specs.Form.{form_in, form_of}
use Rattle.objects_templates.proofs.read_offset_object.Goals as goal
use Rattle.std.specs.Prelude.{Some, None}

pub number_at-requires : goal.number_at-requires
unfolding form_of form_in
number_at-requires c = (lit< tt, read_by-in offset_form _ c.read-r.ensures)

pub returns-then-is_none : goal.returns-then-is_none
unfolding form_of form_in read_offset_object
returns-then-is_none c =
    read_as-accepted offset_form _ c.read-r.ensures (offset_of c.args.s.now) None c.is_none.ensures c.if-is_none.true (ap Some c.number_at.ensures)

pub returns-else-is_none : goal.returns-else-is_none
unfolding form_of form_in read_offset_object
returns-else-is_none c = read_as-refused offset_form _ c.read-r.ensures (offset_of c.args.s.now) None c.is_none.ensures c.if-is_none.false

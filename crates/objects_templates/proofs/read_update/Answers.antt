-- `read_update` reads by the rows of an update.
use Rattle.objects_templates.proofs.Answers.{read_by-in, read_as-accepted, read_as-refused}
use Rattle.objects_templates.specs.Update.{update_form, write_of, read_update}
use Rattle.objects_reader.specs.Form.{form_in, form_of}
use lib.Dec.{lit<}
use Rattle.objects_templates.proofs.read_update.Goals as goal
use Rattle.std.specs.Prelude.{None}

pub number_at-requires : goal.number_at-requires
unfolding form_of form_in
number_at-requires c = (lit< tt, read_by-in update_form _ c.read-r.ensures)

pub returns-then-is_none : goal.returns-then-is_none
unfolding form_of form_in read_update
returns-then-is_none c =
    read_as-accepted update_form _ c.read-r.ensures (write_of c.args.s.now) None c.is_none.ensures c.if-is_none.true (cc)

pub returns-else-is_none : goal.returns-else-is_none
unfolding form_of form_in read_update
returns-else-is_none c = read_as-refused update_form _ c.read-r.ensures (write_of c.args.s.now) None c.is_none.ensures c.if-is_none.false

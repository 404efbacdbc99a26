-- `read_search` reads by the rows of a search.
use Rattle.objects_templates.proofs.Answers.{read_by-in, read_as-accepted, read_as-refused}
use Rattle.objects_templates.specs.Search.{search_form, ask_of, read_search}
use Rattle.objects_reader.specs.Form.{form_in, form_of}
use Rattle.objects_templates.proofs.read_search.Goals as goal
use Rattle.std.specs.Prelude.{None}

pub asked-requires : goal.asked-requires
unfolding form_of form_in
asked-requires c = read_by-in search_form _ c.read-r.ensures

pub returns-then-is_none : goal.returns-then-is_none
unfolding form_of form_in read_search
returns-then-is_none c = read_as-accepted search_form _ c.read-r.ensures (ask_of c.args.s.now) None c.is_none.ensures c.if-is_none.true c.asked.ensures

pub returns-else-is_none : goal.returns-else-is_none
unfolding form_of form_in read_search
returns-else-is_none c = read_as-refused search_form _ c.read-r.ensures (ask_of c.args.s.now) None c.is_none.ensures c.if-is_none.false

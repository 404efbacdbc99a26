-- `read_reference` reads by the row of a file reference.
use Rattle.objects_templates.proofs.Answers.{read_as-accepted, read_as-refused}
use Rattle.objects_templates.specs.Reference.{reference_form, named_of, read_reference}
use Rattle.objects_reader.specs.Form.{form_in, form_of}
use mathlib.Core.Path.{refl}
use Rattle.objects_templates.proofs.read_reference.Goals as goal
use Rattle.std.specs.Prelude.{None}

pub returns-then-is_none : goal.returns-then-is_none
unfolding form_of form_in read_reference
returns-then-is_none c =
    read_as-accepted reference_form _ c.read-r.ensures named_of None c.is_none.ensures c.if-is_none.true refl

pub returns-else-is_none : goal.returns-else-is_none
unfolding form_of form_in read_reference
returns-else-is_none c = read_as-refused reference_form _ c.read-r.ensures named_of None c.is_none.ensures c.if-is_none.false

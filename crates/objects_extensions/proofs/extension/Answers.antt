-- `extension` reads identifier and rights, and keeps them.
use Rattle.objects_reader.specs.Form.{form_in, form_of}
use Rattle.objects_extensions.proofs.Steps.{gave, extension_refused, extension_accepted}
use Rattle.objects_extensions.proofs.extension.Goals as goal

pub returns-then-is_some : goal.returns-then-is_some
unfolding form_of form_in
returns-then-is_some c = gave (extension_refused _ _ c.read_all-q.ensures c.is_some.ensures c.if-is_some.true)

pub returns : goal.returns
unfolding form_of form_in
returns c = extension_accepted _ _ c.read_all-q.ensures c.is_some.ensures c.if-is_some.false c.part.ensures c.part-2.ensures c.keep.ensures

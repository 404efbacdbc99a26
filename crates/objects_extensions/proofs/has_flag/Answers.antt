-- `has_flag` looks at one bit of the flags.
use mathlib.Core.Path.{refl}
use Rattle.objects_extensions.proofs.Steps.{flag_divides}
use Rattle.objects_extensions.proofs.has_flag.Goals as goal

pub nonzero_div-result : goal.nonzero_div-result
nonzero_div-result c = flag_divides c.args.k c.flag.ensures

pub returns : goal.returns
returns c = rw (c.byte.ensures.0, c.flag.ensures) refl

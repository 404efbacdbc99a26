-- `keep_known` tests size and flag, and puts flag and rights.
use native.Mathlib.Omega.{arith}
use Rattle.objects_extensions.proofs.Steps.{gave, flag_set, keep_size, keep_twice, keep_put}
use Rattle.objects_extensions.proofs.keep_known.Goals as goal

pub returns-then-v-size : goal.returns-then-v-size
returns-then-v-size c = gave (keep_size _ _ _ c.size.ensures c.if-v-size.true)

pub returns-then-has_flag : goal.returns-then-has_flag
returns-then-has_flag c = gave (keep_twice _ _ _ c.size.ensures c.if-v-size.false c.has_flag.ensures c.if-has_flag.true)

pub overflow_cast-marked : goal.overflow_cast-marked
overflow_cast-marked c = let h = flag_set c.args.k c.flag.ensures c.byte.ensures.1 in omega arith

pub returns : goal.returns
returns c =
    gave (keep_put _ _ _ c.size.ensures c.if-v-size.false c.has_flag.ensures c.if-has_flag.false c.byte.ensures.0 c.flag.ensures c.put.ensures.1 c.place.ensures c.put-2.ensures.1)

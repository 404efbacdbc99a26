use Rattle.std.proofs.Common.{rules, tests}
use Rattle.std.proofs.lemmas.Iterator.Search.{all_from_yields_List}
use Rattle.std.proofs.lemmas.Iterator.{YieldsList-from_slice}
use Rattle.objects_stamp.specs.Chars.{allows, allows_all}
use Rattle.objects_stamp.proofs.chars.allows_all.Goals as goal

pub returns : goal.returns
unfolding allows_all
returns c = all_from_yields_List (allows c.args.c) _ _ _ c.all.ensures.ran (YieldsList-from_slice c.args.v.now cc) (λ x b q k. search (rules, tests))

-- `store_cut::make_run` meets its contract.
use mathlib.Core.Path.{ap, ◌∙◌}
use Rattle.base.specs.Bytes.{put}
use Rattle.store_cut.proofs.Making.{make-run}
use Rattle.store_cut.proofs.make_run.Goals as goal

pub returns : goal.returns
returns c =
    let a = c.args in
    (c.saturating_sub.ensures, c.put.ensures.1 ∙ ap (put a.body.now a.at) c.part.ensures ∙ make-run _ _ _ a.k c.requires)

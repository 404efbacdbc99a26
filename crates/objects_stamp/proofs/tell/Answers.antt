use Rattle.objects_stamp.specs.Rules.{content_ok}
use Rattle.objects_stamp.proofs.Telling.{told_next, told_bad, told_end}
use Rattle.objects_stamp.proofs.tell.Goals as goal

pub returns-then-not-content_ok : goal.returns-then-not-content_ok
returns-then-not-content_ok c =
    told_bad (content_ok c.args.s.now) c.args.r.now c.loop-k.k c.loop-k.invariant c.loop-k-test.true c.content_ok.ensures c.if-not-content_ok.true-raw c.object_at.ensures

pub loop-k-preserved : goal.loop-k-preserved
loop-k-preserved c = told_next (content_ok c.args.s.now) c.args.r.now c.loop-k.k c.loop-k.invariant c.loop-k-test.true c.content_ok.ensures c.if-not-content_ok.false-raw

pub returns : goal.returns
returns c = told_end (content_ok c.args.s.now) c.args.r.now c.loop-k.k c.loop-k.invariant c.loop-k-test.false c.of_fault.ensures

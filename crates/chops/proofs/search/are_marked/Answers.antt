use Rattle.chops.proofs.AlongLemmas.{marked_all, marked_more}
use Rattle.chops.proofs.search.are_marked.Goals as goal

pub loop-target-preserved : goal.loop-target-preserved
loop-target-preserved c = marked_more c.args.targets.now c.args.queue.now.nodes c.loop-target.target-index c.has.result c.has.ensures c.if-not-has.false c.loop-target.invariant

pub returns : goal.returns
returns c = λ _. marked_all c.args.targets.now c.args.queue.now.nodes c.loop-target.target-index c.loop-target-test.false c.loop-target.invariant

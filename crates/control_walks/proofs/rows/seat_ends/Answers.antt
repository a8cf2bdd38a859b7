use Rattle.std.proofs.Common.{arith}
use Rattle.control_walks.proofs.FloodLemmas.{seated-none, seated-more, seated-all}
use Rattle.control_walks.proofs.rows.seat_ends.Goals as goal

pub loop-place-init : goal.loop-place-init
loop-place-init c = seated-none c.args.nodes.now c.args.targets.now c.args.kept.now c.fill.new.self _ (c.fill.ensures.after (λ y h. h))

pub loop-place-preserved : goal.loop-place-preserved
loop-place-preserved c =
    seated-more c.args.nodes.now c.args.targets.now c.loop-place.kept c.loop-place.rows c.loop-place.place c.index-nodes-place.result c.apart-word.result c.word_if.result
    c.loop-place-test.true c.index-nodes-place.is (omega arith) (omega arith) c.apart-word.ensures c.word_if.ensures c.loop-place.invariant

pub returns-clause-ends : goal.returns-clause-ends
returns-clause-ends c = seated-all c.args.nodes.now c.args.targets.now c.loop-place.kept c.loop-place.rows c.loop-place.place c.loop-place-test.false c.loop-place.invariant

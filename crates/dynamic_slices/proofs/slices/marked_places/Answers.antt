use Rattle.dynamic_slices.proofs.PlaceLemmas.{found_more, found_all}
use Rattle.dynamic_slices.proofs.slices.marked_places.Goals as goal

pub loop-n-preserved : goal.loop-n-preserved
loop-n-preserved c = found_more c.args.steps.now c.args.marks.now c.loop-n.n c.loop-n.found.items c.push_if.new.numbers.items _ c.is_on.result c.loop-n-test.true c.is_on.ensures c.in_ok-push_if.ensures c.loop-n.invariant

pub returns : goal.returns
returns c = found_all c.args.steps.now c.args.marks.now c.loop-n.n c.loop-n.found.items c.loop-n-test.false c.loop-n.invariant

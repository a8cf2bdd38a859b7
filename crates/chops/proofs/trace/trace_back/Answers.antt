use Rattle.std.proofs.Common.{◌<◌, arith, get_or}
use Rattle.flow_graph.specs.FlowGraph.{IsAt}
use Rattle.chops.proofs.TraceLemmas.{before_is, falling_more}
use Rattle.chops.proofs.trace.trace_back.Goals as goal

pub loop-node-preserved : goal.loop-node-preserved
loop-node-preserved c =
    let test = c.loop-node-test.true in
    let more : 0 < get_or c.args.counts.now c.loop-node.node 0 = omega (arith, test) in
    let before =
    before_is c.args.arrows.now (IsAt c.requires.fewest.0 c.requires.fewest.1) c.args.counts.now c.loop-node.node c.previous-node.result c.requires.inside c.requires.fewest.2 c.loop-node.invariant.within c.loop-node.invariant.reached more
    c.previous-node.ensures.one c.previous-node.ensures.least in
    falling_more c.args.arrows.now c.args.counts.now c.args.end c.loop-node.node c.previous-node.result c.loop-node.trace.items c.push-in-loop-node.new.self.items c.in_ok-push-2.ensures.items before.0 before.1 c.loop-node.invariant

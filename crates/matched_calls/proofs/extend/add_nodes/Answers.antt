use Rattle.matched_calls.specs.Extended.{IsNext}
use Rattle.matched_calls.proofs.ExtendLemmas.{grown_more}
use Rattle.matched_calls.proofs.extend.add_nodes.Goals as goal

pub loop-node-preserved : goal.loop-node-preserved
loop-node-preserved c =
    grown_more (IsNext c.args.nodes.now c.args.kinds.now c.args.phase) c.loop-node.node c.loop-node.extended.items c.push.new.self.items c.bare.result c.in_ok-next.next.items c.in_ok-push.ensures.items c.bare.ensures c.in_ok-next.ensures c.loop-node.invariant

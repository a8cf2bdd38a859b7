use Rattle.std.proofs.Common.{◌≡◌, ◌∙◌, ◌≤◌, ap, arith, get_or, length}
use Rattle.flow_graph.specs.declared.graph.FlowNode.{FlowNode}
use Rattle.flow_graph.proofs.GraphLaws.{Has-within}
use Rattle.slicer.proofs.FollowLemmas.{begin-more}
use Rattle.slicer.proofs.search.begin.Goals as goal

pub loop-n-preserved : goal.loop-n-preserved
loop-n-preserved c =
    let size = c.loop-n.invariant.size in
    let cleared = c.clear.ensures.size in
    let room : length c.args.nodes.now ≤ c.loop-n.queue.size = omega arith in
    record {
      size = c.mark_if.ensures.size ∙ c.loop-n.invariant.size;
      nodes = begin-more c.args.nodes.now c.args.at c.loop-n.n c.loop-n.queue.size (get_or c.args.nodes.now c.loop-n.n c.index-nodes-n.result) c.loop-n.queue.nodes c.mark_if.new.self.nodes
          c.loop-n-test.true room (ap (λ (node : FlowNode). get_or c.args.nodes.now c.loop-n.n node) c.index-nodes-n.is) c.mark_if.ensures.adds c.loop-n.invariant.nodes;
    }

pub returns-clause-nodes : goal.returns-clause-nodes
returns-clause-nodes c = λ n.
    let by = c.loop-n.invariant.nodes n in (
      λ has. (by.0 has).1,
      λ stands. by.1 ((let within = Has-within c.args.nodes.now n (λ node. node.at ≡ c.args.at) stands in omega (arith, within)), stands),
    )

use Rattle.std.proofs.Common.{List, length, ap, arith}
use Rattle.flow_graph.specs.declared.graph.FlowNode.{FlowNode}
use Rattle.slicer.specs.Slicer.{ListedEdge}
use Rattle.slicer.proofs.FollowLemmas.{begin-inside}
use Rattle.chops.proofs.WalkerLemmas.{back_met}
use Rattle.chops.proofs.walker.Walker.back.Goals as goal

pub begin-requires-clause-numbers : goal.begin-requires-clause-numbers
begin-requires-clause-numbers c =
    let many = ap (λ (ns : List FlowNode). length ns) c.as_slice.ensures in let made = c.requires.made in let view = c.self.view_is in let small = c.self.invariant.2 in omega (arith, many, made, view, small)

pub follow-requires-clause-inside : goal.follow-requires-clause-inside
follow-requires-clause-inside c = begin-inside c.as_slice.result.now c.args.graph.now.flow.nodes c.args.at c.begin.new.queue.nodes c.as_slice.ensures c.begin.ensures.nodes

pub returns-clause-nodes : goal.returns-clause-nodes
returns-clause-nodes c =
    back_met (ListedEdge c.args.graph.now.edges.ordinary c.args.graph.now.edges.sp c.args.skip_sp) c.as_slice.result.now c.args.graph.now.flow.nodes c.args.at c.begin.new.queue.nodes c.follow.new.queue.nodes c.as_slice.ensures c.begin.ensures.nodes c.follow.ensures.grows c.follow.ensures.closed

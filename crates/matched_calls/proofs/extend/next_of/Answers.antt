use Rattle.std.proofs.Common.{◌∙◌, ap, sym}
use Rattle.flow_graph.specs.declared.graph.FlowNode.{FlowNode}
use Rattle.flow_graph.proofs.GraphLaws.{slice_get-at}
use Rattle.matched_calls.proofs.ExtendLemmas.{next_held}
use Rattle.matched_calls.proofs.extend.next_of.Goals as goal

pub returns : goal.returns
returns c =
    next_held c.args.nodes.now c.args.kinds.now c.args.phase c.args.node c.index-nodes-node.result c.as_slice-next.result.now c.as_slice.result.now c.new-list.result.items c.add_taken.new.list.items c.add_links.new.list.items
    (slice_get-at c.args.nodes.now c.args.node c.index-nodes-node.result c.requires.within c.index-nodes-node.is) (c.as_slice-next.ensures ∙ ap (λ (node : FlowNode). node.next) (sym c.index-nodes-node.is)) c.as_slice.ensures c.new-list.ensures.items
    c.in_ok-add_taken.ensures c.in_ok-add_links.ensures

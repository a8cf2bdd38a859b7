use Rattle.std.proofs.Common.{refl, sym, ◌∙◌, ap, arith}
use Rattle.flow_graph.specs.declared.graph.FlowNode.{FlowNode}
use Rattle.flow_graph.proofs.RowLemmas.{met-from, raise-grows, raise-settled}
use Rattle.flow_graph.proofs.rows.raise.Goals as goal

pub returns-then-new-old-clause-settled : goal.returns-then-new-old-clause-settled
returns-then-new-old-clause-settled c = λ _.
    raise-settled c.args.nodes.now c.args.rows.now c.args.kept.now c.args.node c.met.result c.word_at.result _
    (met-from c.args.nodes.now c.args.rows.now c.args.node c.met.result c.index-nodes-node.result c.as_slice.result.now c.requires.node_in_range c.index-nodes-node.is
    (c.as_slice.ensures ∙ ap (λ (node : FlowNode). node.next) (sym c.index-nodes-node.is)) c.met.ensures)
    c.word_at.ensures refl c.if-new-old.true

pub returns-clause-grows : goal.returns-clause-grows
returns-clause-grows c =
    raise-grows c.args.nodes.now c.args.rows.now c.args.kept.now c.args.node c.met.result c.word_at.result _ c.requires.row_in_range
    (met-from c.args.nodes.now c.args.rows.now c.args.node c.met.result c.index-nodes-node.result c.as_slice.result.now c.requires.node_in_range c.index-nodes-node.is
    (c.as_slice.ensures ∙ ap (λ (node : FlowNode). node.next) (sym c.index-nodes-node.is)) c.met.ensures)
    c.word_at.ensures refl c.if-new-old.false (omega arith) c.met.type_inv

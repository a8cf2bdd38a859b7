use Rattle.std.proofs.Common.{ℕ, ◌<◌, List, length, subst, sym, ◌∙◌, Bool}
use Rattle.std.specs.Prelude.{◌↔◌}
use Rattle.flow_graph.specs.declared.graph.FlowNode.{FlowNode}
use Rattle.flow_graph.specs.FlowGraph.{Reaches}
use Rattle.flow_graph.specs.Walks.{IsOn}
use Rattle.flow_graph.proofs.WalkLemmas.{reach-marks}
use Rattle.flow_graph.proofs.graph.FlowGraph.reach.Goals as goal

pub returns-clause-reaches : goal.returns-clause-reaches
returns-clause-reaches c =
    let nodes = c.as_slice-nodes.result.now in
    let found = reach-marks c.as_slice-nodes.result.now c.deref.result.now c.in_ok-marks.marks.items c.args.from
    (c.deref.ensures.value ∙ c.in_ok-kept.ensures.items_if_clones_equal (λ y h. h)) c.in_ok-marks.ensures.nodes c.in_ok-marks.ensures.arrives in
    subst (λ (ns : List FlowNode). (n : ℕ) → n < length ns → IsOn c.with_mark.result.items n ↔ Reaches ns c.args.from n) c.as_slice-nodes.ensures
    (λ n within. subst (λ (marks : List Bool). IsOn marks n ↔ Reaches c.as_slice-nodes.result.now c.args.from n) (sym c.with_mark.ensures) (found n within))

use Rattle.std.proofs.Common.{ℕ, List, subst, sym}
use Rattle.flow_graph.specs.declared.graph.FlowNode.{FlowNode}
use Rattle.flow_graph.specs.FlowGraph.{esp_place}
use Rattle.dep_graph.specs.DepGraph.{DataEdge}
use Rattle.dep_graph.specs.Edges.{ListsPairs, OrdinaryEdge}
use Rattle.dep_graph.proofs.WalkedLemmas.{sp-kind}
use Rattle.dep_graph.proofs.laws.data_edges.Goals as goal

pub returns : goal.returns
returns c = record {
  ordinary_edges = subst (λ (g : List FlowNode). ListsPairs (OrdinaryEdge g) c.from_vec.result) c.as_slice-nodes.ensures
      (subst (λ (es : List (ℕ × ℕ)). ListsPairs (OrdinaryEdge c.as_slice-nodes.result.now) es) (sym c.from_vec.ensures) c.in_ok-ordinary.ensures);
  sp_edges = subst (λ (g : List FlowNode). ListsPairs (DataEdge g esp_place) c.from_vec-2.result) c.as_slice-nodes.ensures
      (subst (λ (es : List (ℕ × ℕ)). ListsPairs (DataEdge c.as_slice-nodes.result.now esp_place) es) (sym c.from_vec-2.ensures)
      (sp-kind c.as_slice-nodes.result.now c.in_ok-sp.sp.items c.in_ok-sp.ensures));
}

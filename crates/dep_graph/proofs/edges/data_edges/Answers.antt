use Rattle.dep_graph.proofs.PlaceLemmas.{ordinary-edges, sp-edges}
use Rattle.dep_graph.proofs.edges.data_edges.Goals as goal

pub returns : goal.returns
returns c = record {
  ordinary_edges = ordinary-edges c.args.graph.now.nodes c.as_slice-nodes.result.now c.in_ok-places.places.items c.as_slice-2.result.now c.in_ok-ordinary.ordinary.items c.from_vec.result
      c.as_slice-nodes.ensures c.as_slice-2.ensures.value c.from_vec.ensures c.in_ok-places.ensures c.in_ok-ordinary.ensures;
  sp_edges = sp-edges c.args.graph.now.nodes c.as_slice-nodes.result.now c.in_ok-sp.sp.items c.from_vec-2.result c.as_slice-nodes.ensures c.from_vec-2.ensures c.in_ok-sp.ensures;
}

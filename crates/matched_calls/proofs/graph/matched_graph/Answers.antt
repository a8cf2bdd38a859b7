use Rattle.matched_calls.proofs.GraphLemmas.{matches_made, matches_nodes}
use Rattle.matched_calls.proofs.graph.matched_graph.Goals as goal

pub returns-clause-matches : goal.returns-clause-matches
returns-clause-matches c =
    matches_made c.args.g.now.flow.nodes c.as_slice-nodes.result.now c.args.k.now c.in_ok-places.places.items c.as_slice.result.now c.in_ok-ordinary.ordinary.items c.from_vec.result c.in_ok-sp.sp.items c.from_vec-2.result c.in_ok-control.control.items c.from_vec-3.result
    c.as_slice-nodes.ensures c.as_slice.ensures.value c.in_ok-places.ensures c.from_vec.ensures c.from_vec-2.ensures c.from_vec-3.ensures c.in_ok-ordinary.ensures c.in_ok-sp.ensures c.in_ok-control.ensures

pub returns-clause-nodes : goal.returns-clause-nodes
returns-clause-nodes c =
    matches_nodes c.args.g.now.flow.nodes c.args.k.now c.from_vec.result c.from_vec-2.result c.from_vec-3.result
    (matches_made c.args.g.now.flow.nodes c.as_slice-nodes.result.now c.args.k.now c.in_ok-places.places.items c.as_slice.result.now c.in_ok-ordinary.ordinary.items c.from_vec.result c.in_ok-sp.sp.items c.from_vec-2.result c.in_ok-control.control.items c.from_vec-3.result
    c.as_slice-nodes.ensures c.as_slice.ensures.value c.in_ok-places.ensures c.from_vec.ensures c.from_vec-2.ensures c.from_vec-3.ensures c.in_ok-ordinary.ensures c.in_ok-sp.ensures c.in_ok-control.ensures)

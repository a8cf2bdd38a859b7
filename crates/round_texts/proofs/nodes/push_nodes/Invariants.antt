use Rattle.std.proofs.Common.{◌≡◌, ◌+◌, ◌≤◌, ◌++◌, length}
use Rattle.std.specs.List.{flat_map}
use Rattle.vsa.specs.Views.{placed_with}
use Rattle.round_texts.specs.Values.{node_text, placed_at}
use Rattle.round_texts.proofs.nodes.push_nodes.Given as goal

abbrev pub invariant-nodes : goal.invariant-nodes
invariant-nodes l = record {
  text : l.text.items ++ flat_map node_text (placed_at l.fn.at (placed_with l.nodes_left l.states_left)) ≡ l.fn.text.items ++ flat_map node_text (placed_at l.fn.at (placed_with l.fn.nodes l.fn.states));
  count : l.count + length (placed_at l.fn.at (placed_with l.nodes_left l.states_left)) ≡ length (placed_at l.fn.at (placed_with l.fn.nodes l.fn.states));
  few : l.count + length l.nodes_left ≤ length l.fn.nodes;
}

abbrev pub decreases-nodes : goal.decreases-nodes
decreases-nodes l = length l.nodes_left

use Rattle.std.proofs.Common.{length}
use Rattle.serde.specs.Event.{Log}
use Rattle.serde_json.specs.Events.{SendsItems}
use Rattle.round_texts.specs.Graph.{items_of, node_data}
use Rattle.round_texts.proofs.graph.send_nodes_at.Given as goal

-- whatever ends it well from here ends it well from the start
abbrev pub invariant-nodes_left : goal.invariant-nodes_left
invariant-nodes_left g l =
    (end : Log) → SendsItems (items_of node_data l.rest) (g.S.Serializer.written l.out) end → SendsItems (items_of node_data l.initial.rest) (g.S.Serializer.written l.initial.out) end

abbrev pub decreases-nodes_left : goal.decreases-nodes_left
decreases-nodes_left g l = length l.rest

use Rattle.std.proofs.Common.{length}
use Rattle.serde.specs.Event.{Log}
use Rattle.serde_json.specs.Events.{SendsItems}
use Rattle.round_texts.specs.Graph.{items_of, pair_data}
use Rattle.round_texts.proofs.graph.send_pairs.Given as goal

-- whatever ends it well from here ends it well from the start
abbrev pub invariant-pairs_left : goal.invariant-pairs_left
invariant-pairs_left g l =
    (end : Log) → SendsItems (items_of pair_data l.rest) (g.S.Serializer.written l.out) end → SendsItems (items_of pair_data l.initial.rest) (g.S.Serializer.written l.initial.out) end

abbrev pub decreases-pairs_left : goal.decreases-pairs_left
decreases-pairs_left g l = length l.rest

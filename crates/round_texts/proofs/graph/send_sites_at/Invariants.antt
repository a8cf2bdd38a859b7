use Rattle.std.proofs.Common.{length, reverse}
use Rattle.serde.specs.Event.{Log}
use Rattle.serde_json.specs.Events.{SendsItems}
use Rattle.round_texts.specs.Graph.{items_of, number_data}
use Rattle.round_texts.proofs.graph.send_sites_at.Given as goal

-- whatever ends it well from here ends it well from the start
abbrev pub invariant-sites_left : goal.invariant-sites_left
invariant-sites_left g l =
    (end : Log) → SendsItems (items_of number_data (reverse l.rest)) (g.S.Serializer.written l.out) end → SendsItems (items_of number_data (reverse l.initial.rest)) (g.S.Serializer.written l.initial.out) end

abbrev pub decreases-sites_left : goal.decreases-sites_left
decreases-sites_left g l = length l.rest

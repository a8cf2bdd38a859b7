use Rattle.std.proofs.lemmas.Result.{on_ok_weaker}
use Rattle.serde.specs.Event.{Log}
use Rattle.std.proofs.Common.{codes, reverse}
use Rattle.round_texts.specs.Graph.{list_data, number_data, SendsMember}
use Rattle.round_texts.proofs.GraphLemmas.{node_sent}
use Rattle.std.proofs.Common.{subst}
use Rattle.round_texts.proofs.graph.send_node.Goals as goal

pub returns : goal.returns
returns g c =
    let at : Log = g.S.Serializer.written c.send_number_at.new.out in
    let proc : Log = g.S.Serializer.written c.send_number_at-2.new.out in
    let sites : Log = g.S.Serializer.written c.send_sites_at.new.out in
    on_ok_weaker c.end_map.result (λ e. node_sent c.args.node.now (g.S.Serializer.written c.args.out.now) (g.S.Serializer.written c.begin_map.new.self) at proc sites (g.S.Serializer.written c.end_map.new.self)
    c.in_ok-begin_map.ensures c.in_ok-send_number_at.ensures c.in_ok-send_number_at-2.ensures (subst (λ xs. SendsMember (codes "sites") (list_data number_data (reverse xs)) proc sites) c.as_slice.ensures c.in_ok-send_sites_at.ensures) e) c.end_map.ensures

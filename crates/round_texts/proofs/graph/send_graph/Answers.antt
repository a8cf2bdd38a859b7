use Rattle.std.proofs.lemmas.Result.{on_ok_weaker}
use Rattle.std.proofs.Common.{codes}
use Rattle.serde.specs.Event.{Log}
use Rattle.round_texts.specs.Graph.{node_data, pair_data}
use Rattle.round_texts.proofs.GraphLemmas.{graph_sent, same_list}
use Rattle.round_texts.proofs.graph.send_graph.Goals as goal

pub returns : goal.returns
returns g c =
    let control : Log = g.S.Serializer.written c.send_pairs_at.new.out in
    let edges : Log = g.S.Serializer.written c.send_pairs_at-2.new.out in
    let lane : Log = g.S.Serializer.written c.send_number_at.new.out in
    let nodes : Log = g.S.Serializer.written c.send_nodes_at.new.out in
    let round : Log = g.S.Serializer.written c.send_number_at-2.new.out in
    let sp : Log = g.S.Serializer.written c.send_pairs_at-3.new.out in
    on_ok_weaker c.end_map.result (λ e. graph_sent c.args.round.now c.args.control.now (g.S.Serializer.written c.args.out.now) (g.S.Serializer.written c.begin_map.new.self) control edges lane nodes round sp (g.S.Serializer.written c.end_map.new.self)
    c.in_ok-begin_map.ensures c.in_ok-send_pairs_at.ensures (same_list pair_data (codes "edges") control edges _ _ c.as_slice.ensures c.in_ok-send_pairs_at-2.ensures) c.in_ok-send_number_at.ensures (same_list node_data (codes "nodes") lane nodes _ _ c.deref.ensures.value c.in_ok-send_nodes_at.ensures) c.in_ok-send_number_at-2.ensures (same_list pair_data (codes "sp") round sp _ _ c.as_slice-2.ensures c.in_ok-send_pairs_at-3.ensures) e) c.end_map.ensures

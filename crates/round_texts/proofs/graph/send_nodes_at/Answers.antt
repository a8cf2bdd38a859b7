use Rattle.std.proofs.Common.{length, refl}
use Rattle.std.proofs.lemmas.Result.{on_ok_weaker}
use Rattle.round_texts.specs.Graph.{node_data}
use Rattle.round_texts.proofs.GraphLemmas.{list_sent}
use Rattle.round_texts.proofs.graph.send_nodes_at.Goals as goal

pub returns : goal.returns
returns g c =
    on_ok_weaker c.end_seq.result (λ e. (_, c.in_ok-key.ensures, list_sent node_data c.args.nodes.now c.nodes_left.rest.now (length c.args.nodes.now) _ _ _ _ c.in_ok-begin_seq.ensures refl c.in_default.ensures.cases c.nodes_left.invariant e)) c.end_seq.ensures

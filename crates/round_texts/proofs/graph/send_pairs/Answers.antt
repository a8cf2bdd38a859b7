use Rattle.std.proofs.Common.{length, refl}
use Rattle.std.proofs.lemmas.Result.{on_ok_weaker}
use Rattle.round_texts.specs.Graph.{pair_data}
use Rattle.round_texts.proofs.GraphLemmas.{list_sent}
use Rattle.round_texts.proofs.graph.send_pairs.Goals as goal

pub returns : goal.returns
returns g c =
    on_ok_weaker c.end_seq.result (λ e. list_sent pair_data c.args.pairs.now c.pairs_left.rest.now (length c.args.pairs.now) _ _ _ _ c.in_ok-begin_seq.ensures refl c.in_default.ensures.cases c.pairs_left.invariant e) c.end_seq.ensures

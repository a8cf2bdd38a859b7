use Rattle.std.proofs.Common.{length, reverse, sym, ◌∙◌}
use Rattle.std.proofs.lemmas.List.{length-reverse}
use Rattle.std.proofs.lemmas.Result.{on_ok_weaker}
use Rattle.round_texts.specs.Graph.{number_data}
use Rattle.round_texts.proofs.GraphLemmas.{list_sent}
use Rattle.round_texts.proofs.graph.send_sites_at.Goals as goal

pub returns : goal.returns
returns g c =
    on_ok_weaker c.end_seq.result (λ e. (
      _,
      c.in_ok-key.ensures,
      list_sent number_data (reverse c.args.sites.now) (reverse c.sites_left.rest.now) (length c.args.sites.now) _ _ _ _ c.in_ok-begin_seq.ensures (sym (length-reverse c.args.sites.now))
          (length-reverse c.sites_left.rest.now ∙ c.in_default.ensures.cases) c.sites_left.invariant e,
    )) c.end_seq.ensures

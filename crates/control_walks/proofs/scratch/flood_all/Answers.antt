use Rattle.std.proofs.Common.{◌∙◌, ap, sym, length, ◌≡◌, List, ℕ}
use Rattle.std.proofs.lemmas.List.{with_items_is}
use Rattle.control_walks.proofs.FloodLemmas.{floods-made}
use Rattle.control_walks.proofs.scratch.flood_all.Goals as goal

pub returns-clause-floods : goal.returns-clause-floods
returns-clause-floods c =
    let reaching : length c.flood_reaching.new.rows ≡ c.s.inside.reaching.len = c.flood_reaching.auto.rows ∙ ap (λ (ws : List ℕ). length ws) c.deref_mut-2.ensures.value ∙ sym c.s.inside.reaching.ok.0 in
    let escaping : length c.flood_escaping.new.rows ≡ c.s.inside.escaping.len = c.flood_escaping.auto.rows ∙ ap (λ (ws : List ℕ). length ws) c.deref_mut-4.ensures.value ∙ sym c.s.inside.escaping.ok.0 in
    let made = floods-made c.args.graph.now.nodes c.as_slice-nodes.result.now c.args.targets.now c.flood_reaching.new.rows c.flood_escaping.new.rows _ _ c.as_slice-nodes.ensures
    (with_items_is c.s.inside.reaching c.flood_reaching.new.rows reaching) (with_items_is c.s.inside.escaping c.flood_escaping.new.rows escaping) c.flood_reaching.ensures c.flood_escaping.ensures in
    record { reaches = made.0; escapes = made.1 }

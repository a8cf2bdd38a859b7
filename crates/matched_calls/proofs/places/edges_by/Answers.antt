use Rattle.std.proofs.Common.{◌∙◌, ap, sym, length, ◌≡◌, List, Bool}
use Rattle.std.proofs.lemmas.List.{with_items_is}
use Rattle.dep_graph.proofs.ListingLemmas.{listed-added}
use Rattle.matched_calls.specs.Places.{MatchedBy}
use Rattle.matched_calls.proofs.places.edges_by.Goals as goal

pub returns : goal.returns
returns c =
    let len : length c.add_places.new.pairs ≡ c.in_ok-pairs.pairs.len = c.add_places.auto.pairs ∙ ap (λ (ps : List (List Bool)). length ps) c.as_mut_slice.ensures.value ∙ sym c.in_ok-pairs.pairs.ok.0 in
    listed-added (MatchedBy c.args.ground.now.nodes.now c.args.ground.now.kinds.now c.args.places.now) (length c.args.ground.now.nodes.now) c.as_mut_slice.result.now c.add_places.new.pairs c.as_slice.result.now c.in_ok-edges.edges.items
    (c.as_mut_slice.ensures.value ∙ c.in_ok-pairs.ensures) (c.as_slice.ensures.value ∙ with_items_is c.in_ok-pairs.pairs c.add_places.new.pairs len) c.in_ok-add_places.ensures.adds c.in_ok-edges.ensures

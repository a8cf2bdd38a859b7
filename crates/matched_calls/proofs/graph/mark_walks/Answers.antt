use Rattle.std.proofs.Common.{◌≡◌, ◌∙◌, ℕ, List, ap, length, subst, sym}
use Rattle.std.proofs.lemmas.List.{with_items_is}
use Rattle.dep_graph.proofs.PairLemmas.{adds-like}
use Rattle.dep_graph.proofs.PlaceLemmas.{numbers-inside, numbers-like}
use Rattle.matched_calls.specs.Searches.{IsFrom, IsWalk, IsWide}
use Rattle.matched_calls.proofs.GraphLemmas.{held_walks}
use Rattle.matched_calls.proofs.graph.mark_walks.Goals as goal

pub add_walks-requires-clause-wide : goal.add_walks-requires-clause-wide
add_walks-requires-clause-wide c =
    let len : length c.fill_all.new.kept ≡ c.in_ok-kept.kept.len = c.fill_all.auto.kept ∙ ap (λ (ws : List ℕ). length ws) c.deref_mut.ensures.value ∙ sym c.in_ok-kept.kept.ok.0 in
    subst (λ (ws : List ℕ). IsWide c.args.ground.now.nodes.now c.args.ground.now.kinds.now ws) (sym (c.deref.ensures.value ∙ with_items_is c.in_ok-kept.kept c.fill_all.new.kept len)) c.fill_all.ensures.wide

pub add_walks-requires-clause-inside : goal.add_walks-requires-clause-inside
add_walks-requires-clause-inside c =
    numbers-inside (length c.args.ground.now.nodes.now) c.as_slice.result.now (numbers-like (length c.args.ground.now.nodes.now) c.as_slice.result.now c.in_ok-targets.targets.items c.as_slice.ensures.value c.in_ok-targets.ensures)

pub returns-clause-adds : goal.returns-clause-adds
returns-clause-adds c =
    let len : length c.fill_all.new.kept ≡ c.in_ok-kept.kept.len = c.fill_all.auto.kept ∙ ap (λ (ws : List ℕ). length ws) c.deref_mut.ensures.value ∙ sym c.in_ok-kept.kept.ok.0 in
    adds-like (IsFrom c.args.ground.now.nodes.now c.args.ground.now.kinds.now c.deref.result.now c.deref-2.result.now c.as_slice.result.now) (IsWalk c.args.ground.now.nodes.now c.args.ground.now.kinds.now) c.args.marks.now c.add_walks.new.pairs
    (held_walks c.args.ground.now.nodes.now c.args.ground.now.kinds.now c.fill_all.new.kept c.deref.result.now c.in_ok-sources.sources.items c.deref-2.result.now c.as_slice.result.now
    (c.deref.ensures.value ∙ with_items_is c.in_ok-kept.kept c.fill_all.new.kept len) c.deref-2.ensures.value (c.in_ok-sources.ensures.items_if_clones_equal (λ y h. h)) c.fill_all.ensures.all
    (numbers-like (length c.args.ground.now.nodes.now) c.as_slice.result.now c.in_ok-targets.targets.items c.as_slice.ensures.value c.in_ok-targets.ensures))
    c.add_walks.ensures.adds

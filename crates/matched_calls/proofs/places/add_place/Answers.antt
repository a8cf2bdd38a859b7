use Rattle.std.proofs.Common.{◌≡◌, ◌∙◌, ℕ, Bool, List, ap, get_or, length, sym, arith}
use Rattle.std.proofs.lemmas.List.{with_items_is}
use Rattle.dep_graph.proofs.PairLemmas.{adds-like}
use Rattle.dep_graph.proofs.SpreadLemmas.{users-inside, uses-like}
use Rattle.matched_calls.specs.Matched.{MatchedEdge}
use Rattle.matched_calls.specs.Searches.{IsFrom}
use Rattle.matched_calls.proofs.PlaceLemmas.{held_edges, held_wide}
use Rattle.matched_calls.proofs.places.add_place.Goals as goal

pub add_walks-requires-clause-wide : goal.add_walks-requires-clause-wide
add_walks-requires-clause-wide c =
    let len : length c.widen.new.wide ≡ c.in_ok-wide.wide.len = c.widen.auto.wide ∙ ap (λ (ws : List ℕ). length ws) c.deref_mut.ensures.value ∙ sym c.in_ok-wide.wide.ok.0 in
    let few = c.requires.few in
    let within = c.requires.within in
    held_wide c.args.chunk.now.ground.nodes.now c.args.chunk.now.ground.kinds.now c.args.chunk.now.places.now c.args.chunk.now.kept.now c.widen.new.wide c.deref.result.now c.args.k c.requires.chunk (omega (arith, few, within))
    (c.deref.ensures.value ∙ with_items_is c.in_ok-wide.wide c.widen.new.wide len) c.widen.ensures.len c.widen.ensures.bits

pub add_walks-requires-clause-inside : goal.add_walks-requires-clause-inside
add_walks-requires-clause-inside c =
    users-inside c.args.chunk.now.ground.nodes.now (get_or c.args.chunk.now.places.now c.args.k 0) c.as_slice.result.now
    (uses-like c.args.chunk.now.ground.nodes.now (get_or c.args.chunk.now.places.now c.args.k 0) c.as_slice.result.now c.in_ok-targets.targets.items c.as_slice.ensures.value c.in_ok-targets.ensures)

pub returns-clause-adds : goal.returns-clause-adds
returns-clause-adds c =
    let one : length c.widen.new.wide ≡ c.in_ok-wide.wide.len = c.widen.auto.wide ∙ ap (λ (ws : List ℕ). length ws) c.deref_mut.ensures.value ∙ sym c.in_ok-wide.wide.ok.0 in
    let two : length c.mark_definers.new.marks ≡ c.in_ok-sources.sources.len = c.mark_definers.auto.marks ∙ ap (λ (ms : List Bool). length ms) c.deref_mut-2.ensures.value ∙ sym c.in_ok-sources.sources.ok.0 in
    adds-like (IsFrom c.args.chunk.now.ground.nodes.now c.args.chunk.now.ground.kinds.now c.deref.result.now c.deref-2.result.now c.as_slice.result.now) (MatchedEdge c.args.chunk.now.ground.nodes.now c.args.chunk.now.ground.kinds.now (get_or c.args.chunk.now.places.now c.args.k 0))
    c.args.pairs.now c.add_walks.new.pairs
    (held_edges c.args.chunk.now.ground.nodes.now c.args.chunk.now.ground.kinds.now c.args.chunk.now.places.now c.args.chunk.now.kept.now c.widen.new.wide c.deref.result.now c.mark_definers.new.marks c.deref-2.result.now c.as_slice.result.now c.args.k c.requires.chunk c.requires.within
    (c.deref.ensures.value ∙ with_items_is c.in_ok-wide.wide c.widen.new.wide one) (c.deref-2.ensures.value ∙ with_items_is c.in_ok-sources.sources c.mark_definers.new.marks two) c.widen.ensures.bits c.mark_definers.ensures.len c.mark_definers.ensures.marks
    (uses-like c.args.chunk.now.ground.nodes.now (get_or c.args.chunk.now.places.now c.args.k 0) c.as_slice.result.now c.in_ok-targets.targets.items c.as_slice.ensures.value c.in_ok-targets.ensures))
    c.add_walks.ensures.adds

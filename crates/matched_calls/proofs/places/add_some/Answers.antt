use Rattle.std.proofs.Common.{◌≡◌, ◌∙◌, ℕ, List, ap, length, subst, sym}
use Rattle.std.proofs.lemmas.List.{with_items_is}
use Rattle.matched_calls.specs.Places.{IsChunk}
use Rattle.matched_calls.proofs.places.add_some.Goals as goal

pub add_each-requires-clause-chunk : goal.add_each-requires-clause-chunk
add_each-requires-clause-chunk c =
    let len : length c.fill_chunk.new.kept ≡ c.in_ok-kept.kept.len = c.fill_chunk.auto.kept ∙ ap (λ (ws : List ℕ). length ws) c.deref_mut.ensures.value ∙ sym c.in_ok-kept.kept.ok.0 in
    subst (λ (ws : List ℕ). IsChunk c.args.ground.now.nodes.now c.args.ground.now.kinds.now c.args.places.now ws) (sym (c.deref.ensures.value ∙ with_items_is c.in_ok-kept.kept c.fill_chunk.new.kept len)) c.fill_chunk.ensures

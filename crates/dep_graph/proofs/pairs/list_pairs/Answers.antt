use Rattle.std.proofs.Common.{Bool, List, get_or, length, subst, sym, ◌∙◌, [], ◌≡◌}
use Rattle.std.proofs.lemmas.List.{get_or_default}
use Rattle.flow_graph.specs.Walks.{IsOn}
use Rattle.flow_graph.proofs.WalkLemmas.{on-within}
use Rattle.dep_graph.specs.Edges.{HasPair}
use Rattle.dep_graph.proofs.ListingLemmas.{listing-row}
use Rattle.dep_graph.proofs.pairs.list_pairs.Goals as goal

pub loop-m-preserved : goal.loop-m-preserved
loop-m-preserved c =
    let row : get_or c.args.pairs.now c.loop-m.m [] ≡ c.as_slice.result.now = get_or_default c.args.pairs.now c.loop-m.m [] c.index-pairs-m.result c.loop-m-test.true ∙ sym c.index-pairs-m.is ∙ sym c.as_slice.ensures in
    listing-row (HasPair c.args.pairs.now) c.list_row.new.list.items c.loop-m.m (length c.as_slice.result.now)
    (λ b has. on-within c.as_slice.result.now b (subst (λ (ms : List Bool). IsOn ms b) row has))
    (c.in_ok-list_row.ensures c.args.pairs.now row c.loop-m.invariant)

use Rattle.std.proofs.Common.{◌∙◌, ap, sym, length, ◌≡◌, List, Bool}
use Rattle.std.proofs.lemmas.List.{with_items_is}
use Rattle.dep_graph.proofs.PlaceLemmas.{numbers-inside, numbers-like, reaches-from}
use Rattle.dep_graph.proofs.def_rows.reaching.Goals as goal

pub add_targets-requires-clause-inside : goal.add_targets-requires-clause-inside
add_targets-requires-clause-inside c =
    numbers-inside (length c.as_slice-nodes.result.now) c.as_slice-2.result.now (numbers-like (length c.as_slice-nodes.result.now) c.as_slice-2.result.now c.in_ok-targets.targets.items c.as_slice-2.ensures.value c.in_ok-targets.ensures)

pub returns : goal.returns
returns c =
    let len : length c.add_targets.new.pairs ≡ c.in_ok-pairs.pairs.len = c.add_targets.auto.pairs ∙ ap (λ (ps : List (List Bool)). length ps) c.as_mut_slice.ensures.value ∙ sym c.in_ok-pairs.pairs.ok.0 in
    reaches-from c.args.graph.now.nodes c.as_slice-nodes.result.now c.args.place c.as_slice-2.result.now _ c.as_mut_slice.result.now c.add_targets.new.pairs _
    c.as_slice-nodes.ensures (c.as_mut_slice.ensures.value ∙ c.in_ok-pairs.ensures) (with_items_is c.in_ok-pairs.pairs c.add_targets.new.pairs len)
    (numbers-like (length c.as_slice-nodes.result.now) c.as_slice-2.result.now c.in_ok-targets.targets.items c.as_slice-2.ensures.value c.in_ok-targets.ensures) c.in_ok-add_targets.ensures.adds

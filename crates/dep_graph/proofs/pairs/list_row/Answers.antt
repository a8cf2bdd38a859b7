use Rattle.std.proofs.Common.{Bool, List, get_or, false, sym, ap, ◌∙◌, [], ◌≡◌}
use Rattle.dep_graph.specs.Edges.{HasPair}
use Rattle.dep_graph.proofs.ListingLemmas.{listing-more}
use Rattle.dep_graph.proofs.pairs.list_row.Goals as goal

pub loop-n-preserved : goal.loop-n-preserved
loop-n-preserved c = λ pairs is before.
    let same : get_or (get_or pairs c.args.m []) c.loop-n.n false ≡ get_or c.args.row.now c.loop-n.n false = ap (λ (row : List Bool). get_or row c.loop-n.n false) is in
    listing-more (HasPair pairs) c.loop-n.list.items c.push_if.new.list.items c.args.m c.loop-n.n (get_or c.args.row.now c.loop-n.n false)
    (λ on. same ∙ on, λ has. sym same ∙ has) c.in_ok-push_if.ensures (c.loop-n.invariant pairs is before)

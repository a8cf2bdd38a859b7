use Rattle.item_list.proofs.ListLaws.{sorted_kept}
use Rattle.dep_graph.proofs.PlaceLemmas.{used-more, used-all}
use Rattle.dep_graph.proofs.edges.used_places.Goals as goal

pub loop-node-preserved : goal.loop-node-preserved
loop-node-preserved c = λ place.
    used-more c.args.nodes.now c.loop-node.places.items c.add_uses.new.places.items c.loop-node.node-index c.node-item.result c.as_slice.result.now place
    c.loop-node-test.true c.node-item.is c.as_slice.ensures (c.loop-node.invariant place) (c.in_ok-add_uses.ensures place)

pub returns : goal.returns
returns c = λ place.
    let kept = sorted_kept c.loop-node.places.items c.sort_unstable.new.self.items c.dedup.new.self.items place c.sort_unstable.ensures.permutation c.dedup.ensures.filtered in
    let by = c.loop-node.invariant place in
    let all = used-all c.args.nodes.now c.loop-node.node-index place c.loop-node-test.false in
    (λ among. all.0 (by.0 (kept.0 among)), λ used. kept.1 (by.1 (all.1 used)))

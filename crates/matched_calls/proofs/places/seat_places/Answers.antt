use Rattle.std.proofs.Common.{arith}
use Rattle.matched_calls.proofs.PlaceLemmas.{seating_more, seating_none}
use Rattle.matched_calls.proofs.places.seat_places.Goals as goal

pub loop-n-init : goal.loop-n-init
loop-n-init c = seating_none c.args.nodes.now c.args.places.now c.args.kept.now c.fill.new.self (c.fill.ensures.after (λ y h. h))

pub loop-n-preserved : goal.loop-n-preserved
loop-n-preserved c =
    let len = c.loop-n.invariant.len in
    let room = c.requires.room in
    let low = c.loop-n-test.true in
    seating_more c.args.nodes.now c.args.places.now c.args.kept.now c.loop-n.kept c.loop-n.n c.kept_places.result c.index-nodes-n.result c.loop-n-test.true (omega (arith, len, room, low)) c.index-nodes-n.is c.kept_places.ensures c.loop-n.invariant

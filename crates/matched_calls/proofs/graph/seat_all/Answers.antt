use Rattle.matched_calls.proofs.GraphLemmas.{filling_none}
use Rattle.matched_calls.proofs.graph.seat_all.Goals as goal

pub loop-n-init : goal.loop-n-init
loop-n-init c = filling_none c.args.kept.now c.fill.new.self (c.fill.ensures.after (λ y h. h))

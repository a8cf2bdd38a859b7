use Rattle.matched_calls.proofs.SummaryLemmas.{seating_none}
use Rattle.matched_calls.proofs.summary.seat_exits.Goals as goal

pub loop-exit-init : goal.loop-exit-init
loop-exit-init c = seating_none c.args.exits.now c.args.kept.now c.fill.new.self c.args.rows.now c.requires (c.fill.ensures.after (λ y h. h))

use Rattle.matched_calls.proofs.SummaryLemmas.{Seating}
use Rattle.matched_calls.proofs.summary.seat_exits.Given as goal

abbrev pub invariant-loop-exit : goal.invariant-loop-exit
invariant-loop-exit l = Seating l.exits l.kept l.exit-index l.rows

use Rattle.std.proofs.Common.{arith}
use Rattle.matched_calls.proofs.SummaryLemmas.{seat_past}
use Rattle.matched_calls.proofs.summary.seat.Goals as goal

pub returns-else-place-rows-clause-bits : goal.returns-else-place-rows-clause-bits
returns-else-place-rows-clause-bits c = seat_past c.args.rows.now c.args.node c.args.word (omega arith)

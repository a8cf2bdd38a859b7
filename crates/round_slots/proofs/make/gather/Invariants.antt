use Rattle.round_slots.proofs.EndLemmas.{Gathered}
use Rattle.round_slots.proofs.make.gather.Given as goal

abbrev pub invariant-loop-other : goal.invariant-loop-other
invariant-loop-other g l = Gathered l.fn.words.shared.table_id l.fn.words.shared.key (λ seat. seat.place) l.fn.seats.items l.seats.items l.place

abbrev pub decreases-loop-other : goal.decreases-loop-other
decreases-loop-other g l = goal.left-loop-other g l

use Rattle.matched_calls.proofs.PlaceLemmas.{Seating}
use Rattle.matched_calls.proofs.places.seat_places.Given as goal

abbrev pub invariant-loop-n : goal.invariant-loop-n
invariant-loop-n l = Seating l.nodes l.places l.fn.kept l.n l.kept

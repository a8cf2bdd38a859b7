use Rattle.matched_calls.proofs.PlaceLemmas.{Keeping}
use Rattle.matched_calls.proofs.places.kept_places.Given as goal

abbrev pub invariant-loop-k : goal.invariant-loop-k
invariant-loop-k l = Keeping l.node l.places l.k l.word

use Rattle.matched_calls.proofs.PlaceLemmas.{Widening}
use Rattle.matched_calls.proofs.places.widen.Given as goal

abbrev pub invariant-loop-n : goal.invariant-loop-n
invariant-loop-n l = Widening l.kept l.initial.wide l.k l.n l.wide

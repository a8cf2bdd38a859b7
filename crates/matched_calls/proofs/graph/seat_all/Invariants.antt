use Rattle.matched_calls.proofs.GraphLemmas.{Filling}
use Rattle.matched_calls.proofs.graph.seat_all.Given as goal

abbrev pub invariant-loop-n : goal.invariant-loop-n
invariant-loop-n l = Filling l.fn.kept l.n l.kept

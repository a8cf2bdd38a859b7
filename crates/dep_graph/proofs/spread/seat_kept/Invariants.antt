use Rattle.dep_graph.proofs.SpreadLemmas.{Keeping}
use Rattle.dep_graph.proofs.spread.seat_kept.Given as goal

abbrev pub invariant-loop-m : goal.invariant-loop-m
invariant-loop-m l = Keeping l.nodes l.place l.kept l.m

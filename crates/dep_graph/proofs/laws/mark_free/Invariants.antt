use Rattle.dep_graph.proofs.WalkedLemmas.{Free}
use Rattle.dep_graph.proofs.laws.mark_free.Given as goal

abbrev pub invariant-loop-m : goal.invariant-loop-m
invariant-loop-m l = Free l.nodes l.place l.free l.m

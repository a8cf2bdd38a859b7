use Rattle.dep_graph.specs.Edges.{HasPair, Listing}
use Rattle.dep_graph.proofs.pairs.list_pairs.Given as goal

abbrev pub invariant-loop-m : goal.invariant-loop-m
invariant-loop-m l = Listing (HasPair l.pairs) l.list.items l.m 0

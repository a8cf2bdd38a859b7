use Rattle.std.proofs.Common.{length}
use Rattle.dep_graph.specs.Plain.{KindEdge}
use Rattle.dep_graph.proofs.PairLemmas.{Adding}
use Rattle.dep_graph.proofs.laws.add_all.Given as goal

abbrev pub invariant-loop-m : goal.invariant-loop-m
invariant-loop-m l = Adding (length l.nodes) (KindEdge l.nodes l.is_sp) l.initial.pairs l.pairs l.m

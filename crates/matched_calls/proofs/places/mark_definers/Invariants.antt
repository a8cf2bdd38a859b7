use Rattle.flow_graph.specs.FlowGraph.{MayDefine}
use Rattle.matched_calls.proofs.PlaceLemmas.{Marking}
use Rattle.matched_calls.proofs.places.mark_definers.Given as goal

abbrev pub invariant-loop-m : goal.invariant-loop-m
invariant-loop-m l = Marking (MayDefine l.nodes l.place) l.initial.marks l.m l.marks

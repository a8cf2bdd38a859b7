use Rattle.std.proofs.Common.{length}
use Rattle.dep_graph.specs.Edges.{IsSquare, Adds}
use Rattle.dep_graph.proofs.SpreadLemmas.{EdgeBelow}
use Rattle.dep_graph.proofs.edges.add_places.Given as goal

abbrev pub invariant-loop-place : goal.invariant-loop-place
invariant-loop-place l = record {
  square : IsSquare (length l.nodes) l.pairs;
  adds : Adds (EdgeBelow l.nodes l.places l.place-index) l.initial.pairs l.pairs;
}

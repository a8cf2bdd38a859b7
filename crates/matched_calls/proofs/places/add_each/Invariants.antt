use Rattle.std.proofs.Common.{length}
use Rattle.dep_graph.specs.Edges.{Adds, IsSquare}
use Rattle.matched_calls.proofs.PlaceLemmas.{MatchedBelow}
use Rattle.matched_calls.proofs.places.add_each.Given as goal

abbrev pub invariant-loop-k : goal.invariant-loop-k
invariant-loop-k l = record {
  square : IsSquare (length l.chunk.ground.nodes.now) l.pairs;
  adds : Adds (MatchedBelow l.chunk.ground.nodes.now l.chunk.ground.kinds.now l.chunk.places.now l.k) l.initial.pairs l.pairs;
}

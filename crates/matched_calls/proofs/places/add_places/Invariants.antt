use Rattle.std.proofs.Common.{List, Bool, length}
use Rattle.dep_graph.specs.Edges.{Adds, IsSquare}
use Rattle.matched_calls.specs.Places.{MatchedBy}
use Rattle.matched_calls.proofs.places.add_places.Given as goal

abbrev pub invariant-loop-rest : goal.invariant-loop-rest
invariant-loop-rest l = record {
  square : IsSquare (length l.ground.nodes.now) l.pairs;
  later : (final : List (List Bool)) → Adds (MatchedBy l.ground.nodes.now l.ground.kinds.now l.rest) l.pairs final → Adds (MatchedBy l.ground.nodes.now l.ground.kinds.now l.places) l.initial.pairs final;
}

abbrev pub decreases-loop-rest : goal.decreases-loop-rest
decreases-loop-rest l = length l.rest

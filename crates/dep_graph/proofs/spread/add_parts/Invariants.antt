use Rattle.std.proofs.Common.{length, ◌<◌, List, Bool}
use Rattle.std.specs.Prelude.{All}
use Rattle.dep_graph.specs.Edges.{IsSquare, ArrivesAt, Adds}
use Rattle.dep_graph.proofs.spread.add_parts.Given as goal

abbrev pub invariant-loop-rest : goal.invariant-loop-rest
invariant-loop-rest l = record {
  inside : All (λ n. n < length l.ground.nodes.now) l.rest;
  square : IsSquare (length l.ground.nodes.now) l.pairs;
  later : (final : List (List Bool)) → Adds (ArrivesAt l.ground.nodes.now l.ground.place l.rest) l.pairs final → Adds (ArrivesAt l.ground.nodes.now l.ground.place l.targets) l.initial.pairs final;
}

abbrev pub decreases-loop-rest : goal.decreases-loop-rest
decreases-loop-rest l = length l.rest

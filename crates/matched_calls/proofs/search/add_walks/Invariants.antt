use Rattle.std.proofs.Common.{◌≡◌, ◌<◌, List, Bool, length}
use Rattle.std.specs.Prelude.{All}
use Rattle.dep_graph.specs.Edges.{Adds, IsSquare}
use Rattle.matched_calls.specs.Searches.{IsFrom}
use Rattle.matched_calls.proofs.search.add_walks.Given as goal

abbrev pub invariant-loop-rest : goal.invariant-loop-rest
invariant-loop-rest l = record {
  len : length l.rows ≡ length l.initial.rows;
  inside : All (λ n. n < length l.search.ground.nodes.now) l.rest;
  square : IsSquare (length l.search.ground.nodes.now) l.pairs;
  later : (final : List (List Bool)) → Adds (IsFrom l.search.ground.nodes.now l.search.ground.kinds.now l.search.kept.now l.search.sources.now l.rest) l.pairs final
      → Adds (IsFrom l.search.ground.nodes.now l.search.ground.kinds.now l.search.kept.now l.search.sources.now l.targets) l.initial.pairs final;
}

abbrev pub decreases-loop-rest : goal.decreases-loop-rest
decreases-loop-rest l = length l.rest

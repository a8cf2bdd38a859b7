use Rattle.std.proofs.Common.{◌≡◌, ℕ, ◌<◌, List, [], length}
use Rattle.std.specs.Prelude.{All}
use Rattle.chops.specs.Pairs.{AddsPairs, ControlsAny}
use Rattle.chops.proofs.control.control_pairs.Given as goal

abbrev pub invariant-loop-rest : goal.invariant-loop-rest
invariant-loop-rest l = record {
  size : l.walks.size ≡ length l.graph.nodes;
  inside : All (λ n. n < length l.graph.nodes) l.rest;
  later : (final : List (ℕ × ℕ)) → AddsPairs (ControlsAny l.graph.nodes l.rest) l.pairs.items final → AddsPairs (ControlsAny l.graph.nodes l.initial.rest) [] final;
}

abbrev pub decreases-loop-rest : goal.decreases-loop-rest
decreases-loop-rest l = length l.rest

use Rattle.std.proofs.Common.{ℕ, ◌<◌, ◌≡◌, ◌⊎◌, length}
use Rattle.std.specs.Prelude.{◌↔◌}
use Rattle.flow_graph.specs.Walks.{IsOn}
use Rattle.dep_graph.specs.Edges.{IsHit}
use Rattle.dep_graph.proofs.pairs.scatter.Given as goal

abbrev pub invariant-loop-k : goal.invariant-loop-k
invariant-loop-k l = record {
  len : length l.row ≡ length l.initial.row;
  marks : (n : ℕ) → n < length l.initial.row → IsOn l.row n ↔ (IsOn l.initial.row n ⊎ IsHit l.word l.targets l.k n);
}

use Rattle.std.proofs.Common.{◌≡◌, ℕ, List, length}
use Rattle.std.specs.Prelude.{sum_by}
use Rattle.flow_graph.specs.declared.graph.FlowNode.{FlowNode}
use Rattle.flow_graph.specs.FlowGraph.{IsAt}
use Rattle.chops.specs.Following.{IsAfter}
use Rattle.chops.specs.Counts.{AreWays}
use Rattle.chops.proofs.counts.settle.Given as goal

abbrev pub invariant-loop : goal.invariant-loop
invariant-loop l = record {
  many : length l.counts ≡ length l.initial.counts;
  ways : (g : List FlowNode) (at : ℕ) → AreWays (IsAfter l.arrows) (IsAt g at) l.initial.counts → AreWays (IsAfter l.arrows) (IsAt g at) l.counts;
}

abbrev pub decreases-loop : goal.decreases-loop
decreases-loop l = sum_by (λ count. count) l.counts

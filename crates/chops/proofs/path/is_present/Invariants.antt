use Rattle.std.proofs.Common.{ℕ, ◌<◌}
use Rattle.flow_graph.specs.FlowGraph.{IsAt}
use Rattle.chops.proofs.path.is_present.Given as goal

abbrev pub invariant-loop-node : goal.invariant-loop-node
invariant-loop-node l = (k : ℕ) → k < l.node-index → ¬ IsAt l.nodes l.at k

use Rattle.std.proofs.Common.{ℕ, ◌<◌, ◌≡◌}
use Rattle.std.specs.Prelude.{◌↔◌, Contains}
use Rattle.flow_graph.specs.FlowGraph.{IsAt}
use Rattle.slicer.proofs.search.begin.Given as goal

abbrev pub invariant-loop-n : goal.invariant-loop-n
invariant-loop-n l = record {
  size : l.queue.size ≡ l.initial.queue.size;
  nodes : (m : ℕ) → Contains l.queue.nodes m ↔ ((m < l.n) × IsAt l.nodes l.at m);
}

use Rattle.std.proofs.Common.{◌≡◌, ◌<◌}
use Rattle.control_walks.specs.Floods.{Splits}
use Rattle.slicer.specs.Search.{Adds}
use Rattle.slicer.proofs.search.mark_branches.Given as goal

abbrev pub invariant-loop-branch : goal.invariant-loop-branch
invariant-loop-branch l = record {
  size : l.queue.size ≡ l.initial.queue.size;
  adds : Adds (λ n. (n < l.branch) × Splits l.graph.nodes l.walks.reaching l.walks.escaping n) l.initial.queue.nodes l.queue.nodes;
}

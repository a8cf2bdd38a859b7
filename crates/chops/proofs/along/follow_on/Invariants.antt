use Rattle.std.proofs.Common.{◌≡◌, ◌-◌, length}
use Rattle.slicer.specs.Slicer.{Arrow, ListedEdge}
use Rattle.slicer.specs.Search.{Grows}
use Rattle.chops.proofs.along.follow_on.Given as goal

abbrev pub invariant-loop-skip_sp : goal.invariant-loop-skip_sp
invariant-loop-skip_sp l = record {
  size : l.queue.size ≡ l.initial.queue.size;
  walks : l.walks.size ≡ l.initial.walks.size;
  grows : Grows (Arrow (ListedEdge l.graph.edges.ordinary l.graph.edges.sp l.skip_sp) l.graph.flow.nodes) l.initial.queue.nodes l.queue.nodes;
}

abbrev pub decreases-loop-skip_sp : goal.decreases-loop-skip_sp
decreases-loop-skip_sp l = l.queue.size - length l.queue.nodes

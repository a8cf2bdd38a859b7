use Rattle.std.proofs.Common.{◌≡◌, ◌-◌, length}
use Rattle.slicer.specs.Slicer.{ListedEdge}
use Rattle.slicer.proofs.FollowLemmas.{Following}
use Rattle.slicer.proofs.search.follow.Given as goal

abbrev pub invariant-loop-done : goal.invariant-loop-done
invariant-loop-done l = record {
  size : l.queue.size ≡ l.initial.queue.size;
  walks : l.walks.size ≡ l.initial.walks.size;
  following : Following (ListedEdge l.graph.edges.ordinary l.graph.edges.sp l.skip_sp) l.graph.flow.nodes l.initial.queue.nodes l.queue.nodes l.done;
}

abbrev pub decreases-loop-done : goal.decreases-loop-done
decreases-loop-done l = l.queue.size - length l.queue.nodes

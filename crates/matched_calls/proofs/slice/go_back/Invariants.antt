use Rattle.std.proofs.Common.{◌≡◌, ◌-◌, length}
use Rattle.slicer.specs.Slicer.{ListedEdge}
use Rattle.slicer.specs.Search.{Grows}
use Rattle.matched_calls.specs.Slices.{IsBefore}
use Rattle.matched_calls.proofs.slice.go_back.Given as goal

abbrev pub invariant-loop-skip_sp : goal.invariant-loop-skip_sp
invariant-loop-skip_sp l = record {
  size : l.queue.size ≡ l.initial.queue.size;
  grows : Grows (IsBefore (ListedEdge l.m.edges.ordinary l.m.edges.sp l.skip_sp) l.m.control) l.initial.queue.nodes l.queue.nodes;
}

abbrev pub decreases-loop-skip_sp : goal.decreases-loop-skip_sp
decreases-loop-skip_sp l = l.queue.size - length l.queue.nodes

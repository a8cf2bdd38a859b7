use Rattle.std.proofs.Common.{◌≡◌, ◌-◌}
use Rattle.slicer.proofs.FollowLemmas.{Controlling}
use Rattle.slicer.proofs.search.follow_control.Given as goal

abbrev pub invariant-loop-done : goal.invariant-loop-done
invariant-loop-done l = record {
  size : l.queue.size ≡ l.initial.queue.size;
  walks : l.walks.size ≡ l.initial.walks.size;
  controlling : Controlling l.graph.nodes l.initial.queue.nodes l.queue.nodes l.done;
}

abbrev pub decreases-loop-done : goal.decreases-loop-done
decreases-loop-done l = l.queue.size - l.done

use Rattle.std.proofs.Common.{◌≡◌}
use Rattle.slicer.specs.Search.{Grows, IsBefore}
use Rattle.slicer.proofs.search.sweep_back.Given as goal

abbrev pub invariant-loop-place : goal.invariant-loop-place
invariant-loop-place l = record {
  size : l.queue.size ≡ l.initial.queue.size;
  grows : Grows (IsBefore l.pairs) l.initial.queue.nodes l.queue.nodes;
}

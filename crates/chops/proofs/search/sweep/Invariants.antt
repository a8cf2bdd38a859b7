use Rattle.std.proofs.Common.{◌≡◌}
use Rattle.chops.proofs.AlongLemmas.{Sweeping}
use Rattle.chops.proofs.search.sweep.Given as goal

abbrev pub invariant-loop-place : goal.invariant-loop-place
invariant-loop-place l = record {
  size : l.queue.size ≡ l.initial.queue.size;
  sweeping : Sweeping l.pairs l.place l.initial.queue.nodes l.queue.nodes;
}

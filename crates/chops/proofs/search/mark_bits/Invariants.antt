use Rattle.std.proofs.Common.{◌≡◌}
use Rattle.slicer.specs.Search.{Adds}
use Rattle.chops.proofs.AlongLemmas.{IsMarkedBit}
use Rattle.chops.proofs.search.mark_bits.Given as goal

abbrev pub invariant-loop-k : goal.invariant-loop-k
invariant-loop-k l = record {
  size : l.queue.size ≡ l.initial.queue.size;
  adds : Adds (IsMarkedBit l.targets l.word l.k) l.initial.queue.nodes l.queue.nodes;
}

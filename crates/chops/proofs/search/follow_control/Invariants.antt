use Rattle.std.proofs.Common.{◌≡◌, ◌<◌, length}
use Rattle.std.specs.Prelude.{All}
use Rattle.control_walks.specs.ControlWalks.{Controls}
use Rattle.slicer.specs.Search.{Grows}
use Rattle.chops.proofs.AlongLemmas.{ComesToAll}
use Rattle.chops.proofs.search.follow_control.Given as goal

abbrev pub invariant-loop-rest : goal.invariant-loop-rest
invariant-loop-rest l = record {
  size : l.queue.size ≡ l.initial.queue.size;
  walks : l.walks.size ≡ l.initial.walks.size;
  inside : All (λ n. n < length l.graph.nodes) l.rest;
  grows : Grows (Controls l.graph.nodes) l.initial.queue.nodes l.queue.nodes;
  comes : ComesToAll l.graph.nodes l.nodes l.rest l.initial.queue.nodes l.queue.nodes;
}

abbrev pub decreases-loop-rest : goal.decreases-loop-rest
decreases-loop-rest l = length l.rest

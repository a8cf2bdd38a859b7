use Rattle.flow_graph.specs.Walks.{Follows}
use Rattle.flow_graph.proofs.WalkLemmas.{IsBelow}
use Rattle.flow_graph.proofs.walks.follow.Given as goal

abbrev pub invariant-loop-node : goal.invariant-loop-node
invariant-loop-node l = Follows (IsBelow l.targets l.node-index) l.initial.marks l.initial.work.items l.marks l.work.items

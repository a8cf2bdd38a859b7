use Rattle.std.proofs.Common.{◌+◌, length}
use Rattle.flow_graph.specs.Walks.{unmarked}
use Rattle.flow_graph.proofs.WalkLemmas.{Walking}
use Rattle.flow_graph.proofs.walks.search.Given as goal

abbrev pub invariant-loop-node : goal.invariant-loop-node
invariant-loop-node l = Walking l.nodes l.kept l.from l.marks l.work.items

abbrev pub decreases-loop-node : goal.decreases-loop-node
decreases-loop-node l = unmarked l.marks + length l.work.items

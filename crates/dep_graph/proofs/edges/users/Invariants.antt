use Rattle.flow_graph.specs.FlowGraph.{MayUse}
use Rattle.flow_graph.proofs.RisingLemmas.{Lists}
use Rattle.dep_graph.proofs.edges.users.Given as goal

abbrev pub invariant-loop-n : goal.invariant-loop-n
invariant-loop-n l = Lists (MayUse l.nodes l.place) l.list.items l.n

use Rattle.flow_graph.proofs.WalkLemmas.{MeetsNoneBelow}
use Rattle.flow_graph.proofs.walks.meets_end.Given as goal

abbrev pub invariant-loop-n : goal.invariant-loop-n
invariant-loop-n l = MeetsNoneBelow l.nodes l.marks l.kept l.n

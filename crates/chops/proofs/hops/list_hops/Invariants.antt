use Rattle.std.proofs.Common.{length}
use Rattle.slicer.specs.Slicer.{ListedEdge}
use Rattle.chops.proofs.HopLemmas.{Hopping}
use Rattle.chops.proofs.hops.list_hops.Given as goal

abbrev pub invariant-loop-node : goal.invariant-loop-node
invariant-loop-node l = Hopping (ListedEdge l.graph.edges.ordinary l.graph.edges.sp l.skip_sp) l.graph.flow.nodes l.trace l.rest l.before l.hops.items

abbrev pub decreases-loop-node : goal.decreases-loop-node
decreases-loop-node l = length l.rest

use Rattle.slicer.proofs.SliceLaws.{edges-nodes}
use Rattle.slicer.proofs.graph.RoundGraph.new.Goals as goal

pub returns-clause-nodes : goal.returns-clause-nodes
returns-clause-nodes c = edges-nodes c.args.flow.nodes c.in_ok-edges.edges.ordinary c.in_ok-edges.edges.sp c.in_ok-edges.ensures

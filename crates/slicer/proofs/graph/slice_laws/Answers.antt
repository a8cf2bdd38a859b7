use Rattle.slicer.proofs.SliceLaws.{edges-nodes, slice-of_edges}
use Rattle.slicer.proofs.graph.slice_laws.Goals as goal

pub returns-clause-nodes : goal.returns-clause-nodes
returns-clause-nodes c = edges-nodes

pub returns-clause-edges : goal.returns-clause-edges
returns-clause-edges c = slice-of_edges

use Rattle.flow_graph.specs.FlowGraph.{IsAt}
use Rattle.slicer.specs.Slicer.{Arrow, ListedEdge}
use Rattle.chops.proofs.PathLemmas.{least_is_shortest, one_shortest}
use Rattle.chops.proofs.laws.path_laws.Goals as goal

pub returns-clause-one : goal.returns-clause-one
returns-clause-one c = λ ordinary sp skip_sp g from to. one_shortest (Arrow (ListedEdge ordinary sp skip_sp) g) (IsAt g from) (IsAt g to)

pub returns-clause-least : goal.returns-clause-least
returns-clause-least c = λ ordinary sp skip_sp g from to. least_is_shortest (Arrow (ListedEdge ordinary sp skip_sp) g) (IsAt g from) (IsAt g to)

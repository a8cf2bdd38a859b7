use Rattle.graph_soundness.proofs.GraphLaws.{graph_is}
use Rattle.graph_soundness.proofs.laws.graphs_are_of_maps.Goals as goal

pub returns : goal.returns
returns c = λ image settings states is. graph_is image settings states is

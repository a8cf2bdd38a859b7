use Rattle.graph_soundness.proofs.PlaceLaws.{graph_describes}
use Rattle.graph_soundness.proofs.laws.graphs_describe.Goals as goal

pub returns : goal.returns
returns c = λ image settings states is are clean there forms. graph_describes image settings states is are clean there forms

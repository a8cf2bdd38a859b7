use Rattle.ia32_semantics.specs.Ia32.{machine}
use Rattle.slice_soundness.proofs.ArrowLemmas.{slices_list_dependences}
use Rattle.graph_soundness.specs.Drawn.{map_drawn}
use Rattle.graph_soundness.proofs.PlaceLaws.{graph_describes}
use Rattle.graph_soundness.proofs.laws.slices_of_graphs_list_dependences.Goals as goal

pub returns : goal.returns
returns c = λ image settings states is are clean there forms. slices_list_dependences (machine image settings) (map_drawn image settings states) (graph_describes image settings states is are clean there forms)

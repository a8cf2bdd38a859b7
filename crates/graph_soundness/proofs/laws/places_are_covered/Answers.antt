use Rattle.graph_soundness.proofs.PlaceLaws.{places_covered}
use Rattle.graph_soundness.proofs.laws.places_are_covered.Goals as goal

pub returns : goal.returns
returns c = λ image settings states is are clean there forms. places_covered image settings states is are clean there forms

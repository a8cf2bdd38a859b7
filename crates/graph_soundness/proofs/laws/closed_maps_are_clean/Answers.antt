use Rattle.graph_soundness.proofs.CheckLaws.{clean_is}
use Rattle.graph_soundness.proofs.laws.closed_maps_are_clean.Goals as goal

pub returns : goal.returns
returns c = λ image settings states closed quiet forms. clean_is image settings states closed quiet forms

use Rattle.graph_soundness.proofs.CoreLaws.{cores_covered}
use Rattle.graph_soundness.proofs.laws.cores_are_covered.Goals as goal

pub returns : goal.returns
returns c = λ image settings states drawn o is comes. cores_covered image settings states drawn o is comes

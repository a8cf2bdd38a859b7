use Rattle.graph_soundness.proofs.SetLaws.{has_sets}
use Rattle.graph_soundness.proofs.laws.sets_are_of_accesses.Goals as goal

pub returns : goal.returns
returns c = λ image settings states forms. has_sets image settings states forms

use Rattle.graph_soundness.proofs.FormedLaws.{all_formed}
use Rattle.graph_soundness.proofs.laws.reaches_are_formed.Goals as goal

pub returns : goal.returns
returns c = λ image settings states bytes are forms. all_formed image settings states bytes are forms

use Rattle.step_soundness.proofs.WordLaws.{high_has}
use Rattle.step_soundness.proofs.laws.second_bytes_are_held.Goals as goal

pub returns : goal.returns
returns c = λ lane w v n form lt has. high_has lane w v form n lt has

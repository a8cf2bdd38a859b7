use Rattle.step_soundness.proofs.WordLaws.{part_has}
use Rattle.step_soundness.proofs.laws.written_parts_are_held.Goals as goal

pub returns : goal.returns
returns c = λ lane w old new n m part form lt small was has fits. part_has lane w old new form n m lt small was has part fits

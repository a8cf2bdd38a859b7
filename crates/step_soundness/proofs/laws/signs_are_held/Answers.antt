use Rattle.step_soundness.proofs.ExtensionLaws.{sign_has}
use Rattle.step_soundness.proofs.laws.signs_are_held.Goals as goal

pub returns : goal.returns
returns c = λ lane w v n lt has. sign_has lane w v n has lt

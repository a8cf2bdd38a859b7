use Rattle.step_soundness.proofs.PointerLaws.{risen_has}
use Rattle.step_soundness.proofs.laws.risen_pointers_are_held.Goals as goal

pub returns : goal.returns
returns c = λ lane w v n form has. risen_has lane w v form n has

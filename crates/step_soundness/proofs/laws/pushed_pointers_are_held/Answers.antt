use Rattle.step_soundness.proofs.PointerLaws.{pushed_has}
use Rattle.step_soundness.proofs.laws.pushed_pointers_are_held.Goals as goal

pub returns : goal.returns
returns c = λ lane w v n form has. pushed_has lane w v form n has

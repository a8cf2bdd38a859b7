use Rattle.step_soundness.proofs.PointerLaws.{stepped_has}
use Rattle.step_soundness.proofs.laws.stepped_pointers_are_held.Goals as goal

pub returns : goal.returns
returns c = λ lane w v n may down z form has is few. stepped_has lane w v form n has may down is z few

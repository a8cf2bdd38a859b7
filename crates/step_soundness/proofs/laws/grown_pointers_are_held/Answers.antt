use Rattle.step_soundness.proofs.PointerLaws.{grown_has}
use Rattle.step_soundness.proofs.laws.grown_pointers_are_held.Goals as goal

pub returns : goal.returns
returns c = λ lane w c count v n z form lt is less fv has. grown_has lane w c form count lt is z less v fv n has

use Rattle.step_soundness.proofs.ExtensionLaws.{widened_has}
use Rattle.step_soundness.proofs.laws.extensions_are_held.Goals as goal

pub returns : goal.returns
returns c = λ lane w v n signed from to form has narrow wide lt. widened_has lane w v n has form signed from to narrow wide lt

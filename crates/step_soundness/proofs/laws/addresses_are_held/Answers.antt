use Rattle.step_soundness.proofs.PointerLaws.{address_has}
use Rattle.step_soundness.proofs.laws.addresses_are_held.Goals as goal

pub returns : goal.returns
returns c = λ lane w a s m r less fits. address_has lane w a s r m less fits

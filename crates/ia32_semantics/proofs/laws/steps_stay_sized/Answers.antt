use Rattle.ia32_semantics.proofs.laws.steps_stay_sized.Goals as goal
use Rattle.ia32_semantics.proofs.StepLemmas.{steps_stay_sized}

pub returns : goal.returns
returns c = steps_stay_sized

use Rattle.step_soundness.proofs.StepLaws.{plain_advances}
use Rattle.step_soundness.proofs.laws.plain_steps_advance.Goals as goal

pub returns : goal.returns
returns c = λ image lane a p d i o h plain. plain_advances image lane a p d i o h plain

use Rattle.step_soundness.proofs.StepLaws.{plain_keeps}
use Rattle.step_soundness.proofs.laws.plain_steps_keep_to_accesses.Goals as goal

pub returns : goal.returns
returns c = λ image lane a p d i o h plain. plain_keeps image lane a p d i o h plain

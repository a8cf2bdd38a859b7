use Rattle.call_soundness.proofs.AccessLaws.{control_keeps}
use Rattle.call_soundness.proofs.laws.control_steps_keep_to_accesses.Goals as goal

pub returns : goal.returns
returns c = λ image lane a p d i o h control. control_keeps image lane p a d i o h control

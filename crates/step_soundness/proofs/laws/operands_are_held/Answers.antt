use Rattle.step_soundness.proofs.OperandLaws.{operand_has}
use Rattle.step_soundness.proofs.laws.operands_are_held.Goals as goal

pub returns : goal.returns
returns c = λ image lane a p s d width o words rest n known form fits e. operand_has image lane a p s d known form width o fits words rest n e

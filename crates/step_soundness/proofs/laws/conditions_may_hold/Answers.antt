use Rattle.step_soundness.proofs.ConditionLaws.{holds_may}
use Rattle.step_soundness.proofs.laws.conditions_may_hold.Goals as goal

pub returns : goal.returns
returns c = λ may f c allowed. holds_may may f allowed c

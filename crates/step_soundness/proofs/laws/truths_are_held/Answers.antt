use Rattle.step_soundness.proofs.ConditionLaws.{truth_has}
use Rattle.step_soundness.proofs.laws.truths_are_held.Goals as goal

pub returns : goal.returns
returns c = λ lane w may f c allowed. truth_has may f allowed lane w c

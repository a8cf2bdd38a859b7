use Rattle.step_soundness.proofs.ConditionLaws.{chosen_has}
use Rattle.step_soundness.proofs.laws.choices_are_held.Goals as goal

pub returns : goal.returns
returns c = λ lane w may f c new old m n allowed fn fo hm hn. chosen_has may f allowed lane w c new old fn fo m n hm hn

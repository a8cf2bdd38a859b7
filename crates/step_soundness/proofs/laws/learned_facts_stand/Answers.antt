use Rattle.step_soundness.proofs.CoreLaws.{learns_stand}
use Rattle.step_soundness.proofs.laws.learned_facts_stand.Goals as goal

pub returns : goal.returns
returns c = λ lane d image p a s f stands is. learns_stand lane d image p a s stands f is

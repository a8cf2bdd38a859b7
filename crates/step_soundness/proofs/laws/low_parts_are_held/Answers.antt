use Rattle.step_soundness.proofs.WordLaws.{low_has}
use Rattle.step_soundness.proofs.laws.low_parts_are_held.Goals as goal

pub returns : goal.returns
returns c = λ lane w v n width form lt has. low_has lane w v form n lt has width

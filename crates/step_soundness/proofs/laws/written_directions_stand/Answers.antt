use Rattle.step_soundness.proofs.CoreLaws.{steers_stand}
use Rattle.step_soundness.proofs.laws.written_directions_stand.Goals as goal

pub returns : goal.returns
returns c = λ lane d image p a s set stands. steers_stand lane d image p a s stands set

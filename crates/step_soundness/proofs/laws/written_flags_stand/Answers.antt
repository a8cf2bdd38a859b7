use Rattle.step_soundness.proofs.CoreLaws.{turns_stand}
use Rattle.step_soundness.proofs.laws.written_flags_stand.Goals as goal

pub returns : goal.returns
returns c = λ lane d image p a s flags f stands df may. turns_stand lane d image p a s stands flags df f may

use Rattle.step_soundness.proofs.CoreLaws.{frees_stands}
use Rattle.step_soundness.proofs.laws.freed_flags_stand.Goals as goal

pub returns : goal.returns
returns c = λ lane d image p a s flags stands df. frees_stands lane d image p a s stands flags df

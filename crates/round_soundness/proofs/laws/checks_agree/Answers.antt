use Rattle.round_soundness.proofs.BridgeLaws.{closed_same}
use Rattle.round_soundness.proofs.laws.checks_agree.Goals as goal

pub returns : goal.returns
returns c = λ image settings states. closed_same image settings states

use Rattle.round_soundness.proofs.RoundLaws.{home_again}
use Rattle.round_soundness.proofs.laws.rounds_return_home.Goals as goal

pub returns : goal.returns
returns c = λ image settings r quiet. home_again image settings r quiet

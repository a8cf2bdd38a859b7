use Rattle.round_soundness.proofs.RoundLaws.{states_known}
use Rattle.round_soundness.proofs.laws.rounds_know_states.Goals as goal

pub returns : goal.returns
returns c = λ image settings r quiet. states_known image settings r quiet

use Rattle.round_soundness.proofs.RoundLaws.{states_whole, slots_kept}
use Rattle.round_soundness.proofs.laws.rounds_keep_states_whole.Goals as goal

pub returns : goal.returns
returns c = λ image settings r quiet. (states_whole image settings r quiet, slots_kept image settings r quiet)

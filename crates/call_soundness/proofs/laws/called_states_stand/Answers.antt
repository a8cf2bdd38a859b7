use Rattle.call_soundness.proofs.CallLaws.{called_states_stand}
use Rattle.call_soundness.proofs.laws.called_states_stand.Goals as goal

pub returns : goal.returns
returns c = called_states_stand

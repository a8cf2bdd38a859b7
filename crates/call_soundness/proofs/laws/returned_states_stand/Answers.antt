use Rattle.call_soundness.proofs.ReturnLaws.{returned_states_stand}
use Rattle.call_soundness.proofs.laws.returned_states_stand.Goals as goal

pub returns : goal.returns
returns c = returned_states_stand

use Rattle.call_soundness.proofs.AllocLaws.{allocated_states_stand}
use Rattle.call_soundness.proofs.laws.allocated_states_stand.Goals as goal

pub returns : goal.returns
returns c = allocated_states_stand

use Rattle.call_soundness.proofs.RowLaws.{abstract_steps}
use Rattle.call_soundness.proofs.laws.abstract_steps_are_met.Goals as goal

pub returns : goal.returns
returns c = abstract_steps

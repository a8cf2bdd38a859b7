use Rattle.call_soundness.proofs.SlotLaws.{slots_stay}
use Rattle.call_soundness.proofs.laws.slots_stay.Goals as goal

pub returns : goal.returns
returns c = slots_stay

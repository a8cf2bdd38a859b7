use Rattle.step_soundness.proofs.MoveLaws.{store_stands}
use Rattle.step_soundness.proofs.laws.stored_operands_stand.Goals as goal

pub returns : goal.returns
returns c = λ image lane a p s d width o n w words rest effects known form target spelt lt fw has e fits. store_stands image lane a p s d known form width o target spelt n w lt fw has words rest effects e fits

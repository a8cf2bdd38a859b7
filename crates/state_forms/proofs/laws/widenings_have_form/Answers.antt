use Rattle.state_forms.proofs.JoinForms.{widened_formed}
use Rattle.state_forms.proofs.laws.widenings_have_form.Goals as goal

pub returns : goal.returns
returns c = widened_formed

use Rattle.state_forms.proofs.JoinForms.{joined_formed}
use Rattle.state_forms.proofs.laws.joins_have_form.Goals as goal

pub returns : goal.returns
returns c = joined_formed

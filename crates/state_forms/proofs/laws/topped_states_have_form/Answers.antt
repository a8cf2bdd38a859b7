use Rattle.state_forms.proofs.JoinForms.{topped_formed}
use Rattle.state_forms.proofs.laws.topped_states_have_form.Goals as goal

pub returns : goal.returns
returns c = topped_formed

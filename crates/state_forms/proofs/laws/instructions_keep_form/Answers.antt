use Rattle.state_forms.proofs.RowForms.{post_formed}
use Rattle.state_forms.proofs.laws.instructions_keep_form.Goals as goal

pub returns : goal.returns
returns c = post_formed

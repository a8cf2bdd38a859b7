use Rattle.state_forms.proofs.StartForms.{initial_formed}
use Rattle.state_forms.proofs.laws.starts_have_form.Goals as goal

pub returns : goal.returns
returns c = λ image d entry bytes. initial_formed image bytes d entry

use Rattle.state_forms.proofs.StepForms.{successors_formed}
use Rattle.state_forms.proofs.laws.successors_have_form.Goals as goal

pub returns : goal.returns
returns c = λ image settings states n a bytes form. successors_formed image settings states n a form bytes

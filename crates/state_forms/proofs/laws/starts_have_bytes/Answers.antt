use Rattle.state_forms.proofs.StartForms.{bytes_of_start}
use Rattle.state_forms.proofs.laws.starts_have_bytes.Goals as goal

pub returns : goal.returns
returns c = λ image settings s start. bytes_of_start image settings s start

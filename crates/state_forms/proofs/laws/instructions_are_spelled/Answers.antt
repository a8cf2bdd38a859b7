use Rattle.state_forms.proofs.OperandForms.{stands_spelt}
use Rattle.state_forms.proofs.laws.instructions_are_spelled.Goals as goal

pub returns : goal.returns
returns c = λ image a i bytes e. stands_spelt image bytes a i e

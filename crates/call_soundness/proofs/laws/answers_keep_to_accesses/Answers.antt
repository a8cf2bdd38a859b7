use Rattle.call_soundness.proofs.AnswerAccesses.{answer_keeps}
use Rattle.call_soundness.proofs.laws.answers_keep_to_accesses.Goals as goal

pub returns : goal.returns
returns c = λ image lane a p d at k o fits h. answer_keeps image lane a p d at k o h fits

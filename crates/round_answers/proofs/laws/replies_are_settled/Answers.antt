use Rattle.round_answers.proofs.ReplyLemmas.{one_reply}
use Rattle.round_answers.proofs.laws.replies_are_settled.Goals as goal

pub returns : goal.returns
returns c = one_reply

use Rattle.reply_soundness.proofs.ToldLaws.{reply_tells}
use Rattle.reply_soundness.proofs.laws.replies_tell_runs.Goals as goal

pub returns : goal.returns
returns c = λ image settings r question text quiet reply. reply_tells image settings r quiet question text reply

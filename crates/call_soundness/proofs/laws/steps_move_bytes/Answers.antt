use Rattle.call_soundness.proofs.ByteLaws.{steps_move_bytes}
use Rattle.call_soundness.proofs.laws.steps_move_bytes.Goals as goal

pub returns : goal.returns
returns c = steps_move_bytes

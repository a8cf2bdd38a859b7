use Rattle.call_soundness.proofs.RowLaws.{staying_row}
use Rattle.call_soundness.proofs.laws.staying_steps_are_rows.Goals as goal

pub returns : goal.returns
returns c = staying_row

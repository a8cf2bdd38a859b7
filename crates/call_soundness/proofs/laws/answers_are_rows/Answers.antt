use Rattle.call_soundness.proofs.RowLaws.{answering_row}
use Rattle.call_soundness.proofs.laws.answers_are_rows.Goals as goal

pub returns : goal.returns
returns c = answering_row

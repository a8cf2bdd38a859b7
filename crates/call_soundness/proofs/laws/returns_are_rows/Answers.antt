use Rattle.call_soundness.proofs.RowLaws.{returning_row}
use Rattle.call_soundness.proofs.laws.returns_are_rows.Goals as goal

pub returns : goal.returns
returns c = returning_row

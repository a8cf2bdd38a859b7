use Rattle.call_soundness.proofs.RowLaws.{calling_row}
use Rattle.call_soundness.proofs.laws.calls_are_rows.Goals as goal

pub returns : goal.returns
returns c = calling_row

use Rattle.call_soundness.proofs.RowLaws.{each_row}
use Rattle.call_soundness.proofs.laws.steps_are_rows.Goals as goal

pub returns : goal.returns
returns c = λ image settings states drawn o is are goes. each_row image settings states drawn o is are goes

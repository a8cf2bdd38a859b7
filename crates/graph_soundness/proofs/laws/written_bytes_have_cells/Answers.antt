use Rattle.graph_soundness.proofs.CellLaws.{have_cells}
use Rattle.graph_soundness.proofs.laws.written_bytes_have_cells.Goals as goal

pub returns : goal.returns
returns c = λ image settings states is are clean cells. have_cells image settings states is are clean cells

use Rattle.graph_soundness.proofs.MoveLaws.{bytes_move}
use Rattle.graph_soundness.proofs.laws.bytes_move.Goals as goal

pub returns : goal.returns
returns c = λ image settings states drawn o is are goes. bytes_move image settings states drawn is are o goes

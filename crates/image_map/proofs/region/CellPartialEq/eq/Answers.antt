use Rattle.image_map.proofs.OrderLemmas.{same_cell_alike, same_cell_other}
use Rattle.image_map.proofs.region.CellPartialEq.eq.Goals as goal

pub returns-then-eq : goal.returns-then-eq
returns-then-eq c = same_cell_alike c.args.self.now c.args.other.now _ c.if-eq.ensures c.has_same_ends.ensures

pub returns-else-eq : goal.returns-else-eq
returns-else-eq c = same_cell_other c.args.self.now c.args.other.now c.if-eq.ensures

use Rattle.image_map.proofs.OrderLemmas.{cell_before_alike, cell_before_other}
use Rattle.image_map.proofs.region.Cell.is_before.Goals as goal

pub returns-then-eq : goal.returns-then-eq
returns-then-eq c = cell_before_alike c.args.self.now c.args.other.now _ c.if-eq.ensures c.has_lower_ends.ensures

pub returns-else-eq : goal.returns-else-eq
returns-else-eq c = cell_before_other c.args.self.now c.args.other.now _ c.if-eq.ensures c.is_before.ensures

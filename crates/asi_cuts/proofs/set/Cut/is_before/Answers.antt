use Rattle.asi_cuts.proofs.OrderLemmas.{before_alike, before_other}
use Rattle.asi_cuts.proofs.set.Cut.is_before.Goals as goal

pub returns-then-eq : goal.returns-then-eq
returns-then-eq c = before_alike c.args.self.now c.args.other.now _ c.if-eq.ensures c.has_lower_offset.ensures

pub returns-else-eq : goal.returns-else-eq
returns-else-eq c = before_other c.args.self.now c.args.other.now _ c.if-eq.ensures c.is_before.ensures

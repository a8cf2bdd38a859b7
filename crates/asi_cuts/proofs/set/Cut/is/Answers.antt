use Rattle.asi_cuts.proofs.OrderLemmas.{same_alike, same_other}
use Rattle.asi_cuts.proofs.set.Cut.is.Goals as goal

pub returns-then-eq : goal.returns-then-eq
returns-then-eq c = same_alike c.args.self.now c.args.other.now _ c.if-eq.ensures c.has_same_offset.ensures

pub returns-else-eq : goal.returns-else-eq
returns-else-eq c = same_other c.args.self.now c.args.other.now c.if-eq.ensures

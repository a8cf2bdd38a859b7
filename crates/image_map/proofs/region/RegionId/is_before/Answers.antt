use Rattle.image_map.proofs.OrderLemmas.{before_alike, before_other}
use Rattle.image_map.proofs.region.RegionId.is_before.Goals as goal

pub returns-then-rank : goal.returns-then-rank
returns-then-rank c = before_alike c.args.self.now c.args.other.now _ _ _ _ c.rank.ensures c.rank-2.ensures c.if-rank.true c.number.ensures c.number-then-rank.ensures

pub returns-else-rank : goal.returns-else-rank
returns-else-rank c = before_other c.args.self.now c.args.other.now _ _ _ _ c.rank.ensures c.rank-2.ensures c.if-rank.false c.rank-else-rank.ensures c.rank-else-rank-2.ensures

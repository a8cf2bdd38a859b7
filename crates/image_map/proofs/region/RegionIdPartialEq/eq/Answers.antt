use Rattle.image_map.proofs.OrderLemmas.{same_alike, same_other}
use Rattle.image_map.proofs.region.RegionIdPartialEq.eq.Goals as goal

pub returns-then-rank : goal.returns-then-rank
returns-then-rank c = same_alike c.args.self.now c.args.other.now _ _ _ _ c.rank.ensures c.rank-2.ensures c.if-rank.true c.number.ensures c.number-then-rank.ensures

pub returns-else-rank : goal.returns-else-rank
returns-else-rank c = same_other c.args.self.now c.args.other.now _ _ c.rank.ensures c.rank-2.ensures c.if-rank.false

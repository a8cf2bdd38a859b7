use Rattle.std.proofs.Common.{rules}
use Rattle.service.proofs.LaneLemmas.{numbered_within}
use Rattle.service.proofs.shop.Shop.lane_of.Goals as goal

pub returns-clause-within : goal.returns-clause-within
returns-clause-within c = (numbered_within 0 _ c.args.self.now.lanes c.args.sites c.in-Some-Some.lane c.args.self.now.numbered (search rules)).1

use Rattle.service.proofs.OpenLemmas.{some_opened}
use Rattle.service.proofs.shop.Shop.make.Goals as goal

pub make-requires-clause-some_lane : goal.make-requires-clause-some_lane
make-requires-clause-some_lane c =
    some_opened c.args.wanted c.in_ok-rounds.field-0.lanes _ c.requires.some_lane.0 c.in_ok-rounds.ensures.numbered c.in_ok-rounds.ensures.wanted c.requires.some_lane.1

use Rattle.service.proofs.NumberLemmas.{few_rounds}
use Rattle.service.proofs.PinnedLemmas.{belongs_here}
use Rattle.service.proofs.StepLemmas.{visit_came, visit_looks}
use Rattle.service.proofs.shop.Shop.visit.Goals as goal

pub returns-in-Ok-clause-visits : goal.returns-in-Ok-clause-visits
returns-in-Ok-clause-visits g c =
    let shop = c.args.self.now in
    let r = c.pin-pin.result.shown.value in
    let lane = c.args.refining.now.lane in
    let ready = c.requires.ready in
    visit_came shop c.args.seat.now.place c.pin-pin.new.seat.place c.advance-came.new.seat.place lane r ready.sits c.requires.lane (ready.no_turn lane c.requires.lane) c.pin-pin.ensures.pins c.pin-pin.ensures.belongs
    (few_rounds shop.image shop.settings _ r c.requires.settings (belongs_here shop lane r c.pin-pin.ensures.belongs).0) c.in-Ok.advance c.in-Ok.ensures.advances

pub returns-in-Err-clause-visits : goal.returns-in-Err-clause-visits
returns-in-Err-clause-visits g c =
    let lane = c.args.refining.now.lane in
    let ready = c.requires.ready in
    visit_looks c.args.self.now c.args.seat.now.place c.pin-pin.new.seat.place c.advance-came.new.seat.place lane c.pin-pin.result.shown.value ready.sits c.requires.lane (ready.no_turn lane c.requires.lane) c.pin-pin.ensures.pins c.in-Err.ensures.advances

use Rattle.std.proofs.Common.{sym, subst}
use Rattle.service.specs.Advances.{Advances}
use Rattle.service.specs.Steps.{Looks}
use Rattle.service.proofs.PinnedLemmas.{settled_here}
use Rattle.service.proofs.StepLemmas.{tried_looks, tried_publishes, tried_settles}
use Rattle.service.proofs.session.Session.settle.Goals as goal

pub returns-in-Ok-Published-clause-ends : goal.returns-in-Ok-Published-clause-ends
returns-in-Ok-Published-clause-ends g c =
    let i = c.loop.invariant in
    let lane = c.lane_of-lane in
    let pin = c.pin-pin in
    let came = subst (Advances pin.new.seat.place c.advance.new.seat.place lane.result pin.result.shown.value) c.in-Ok-Published.field-0-is c.in-Ok-Published.ensures.advances in
    record {
      lane = lane.result;
      is_lane = lane.ensures.lane;
      publishes = tried_publishes c.args.shop.now c.args.self.now.seat.place c.loop.self.seat.place pin.new.seat.place lane.result _ i.2.0 c.requires.ready.sits lane.ensures.within i.2.1 pin.ensures.pins c.advance.new.seat.place _ came.1;
    }

pub returns-in-Ok-Settled-clause-ends : goal.returns-in-Ok-Settled-clause-ends
returns-in-Ok-Settled-clause-ends g c =
    let i = c.loop.invariant in
    let lane = c.lane_of-lane in
    let pin = c.pin-pin in
    let came = subst (Advances pin.new.seat.place c.advance.new.seat.place lane.result pin.result.shown.value) c.in-Ok-Settled.field-0-is c.in-Ok-Settled.ensures.advances in
    settled_here c.args.shop.now c.args.self.now.lane lane.result _ _ pin.result.shown.value _ lane.ensures.lane pin.ensures.belongs came.0 came.1
    (subst (Looks c.args.self.now.seat.place c.advance.new.seat.place lane.result) (sym came.0)
    (tried_settles c.args.shop.now c.args.self.now.seat.place c.loop.self.seat.place pin.new.seat.place lane.result _ i.2.0 c.requires.ready.sits lane.ensures.within i.2.1 pin.ensures.pins c.advance.new.seat.place came.2))

pub returns-in-Err-clause-ends : goal.returns-in-Err-clause-ends
returns-in-Err-clause-ends g c =
    let i = c.loop.invariant in
    let lane = c.lane_of-lane in
    let pin = c.pin-pin in
    record {
      lane = lane.result;
      is_lane = lane.ensures.lane;
      looks = tried_looks c.args.shop.now c.args.self.now.seat.place c.loop.self.seat.place pin.new.seat.place lane.result _ i.2.0 c.requires.ready.sits lane.ensures.within i.2.1 pin.ensures.pins c.advance.new.seat.place c.in-Err.ensures.advances;
    }

pub loop-preserved : goal.loop-preserved
loop-preserved g c =
    let i = c.loop.invariant in
    let lane = c.lane_of-lane in
    let pin = c.pin-pin in
    let came = subst (Advances pin.new.seat.place c.advance.new.seat.place lane.result pin.result.shown.value) c.in-Ok-Refused.field-0-is c.in-Ok-Refused.ensures.advances in (
      c.advance.ensures.ready,
      i.1,
      tried_looks c.args.shop.now c.args.self.now.seat.place c.loop.self.seat.place pin.new.seat.place lane.result _ i.2.0 c.requires.ready.sits lane.ensures.within i.2.1 pin.ensures.pins c.advance.new.seat.place came,
    )

use Rattle.std.proofs.Common.{refl, subst, arith}
use Rattle.service.specs.Refines.{Visits}
use Rattle.service.specs.Seats.{key_of}
use Rattle.service.proofs.RefineLemmas.{refined_looks, refined_publishes, refined_settles, total_few}
use Rattle.service.proofs.shop.Shop.refine.Goals as goal

pub overflow_add-refining : goal.overflow_add-refining
overflow_add-refining g c =
    let shop = c.args.self.now in
    let entry = c.requires.refined.0 in
    let f = c.requires.refined.1 in
    let few = total_few entry c.args.seat.now.place (key_of shop).lanes f.grows in
    let counted = f.counted in
    let lanes = shop.store.sized.5 in
    omega (arith, few, counted, lanes)

pub returns-in-Ok-Published-clause-refined : goal.returns-in-Ok-Published-clause-refined
returns-in-Ok-Published-clause-refined g c = λ entry f.
    let lane = c.args.refining.now.lane in
    let came = subst (Visits c.args.self.now c.args.seat.now.place c.visit.new.seat.place lane) c.in-Ok-Published.field-0-is c.in-Ok-Published.ensures.visits in
    refined_publishes c.args.self.now entry c.args.seat.now.place c.visit.new.seat.place lane c.args.refining.now _ c.requires.ready.sits c.requires.lane f _ came.0 came.1 refl refl

pub returns-in-Ok-Settled-clause-refined : goal.returns-in-Ok-Settled-clause-refined
returns-in-Ok-Settled-clause-refined g c = λ entry f.
    let lane = c.args.refining.now.lane in
    let came = subst (Visits c.args.self.now c.args.seat.now.place c.visit.new.seat.place lane) c.in-Ok-Settled.field-0-is c.in-Ok-Settled.ensures.visits in
    refined_settles c.args.self.now entry c.args.seat.now.place c.visit.new.seat.place lane c.args.refining.now _ c.requires.ready.sits c.requires.lane f _ came.0 came.1 came.2 came.3 came.4 refl refl

pub returns-in-Ok-Refused-clause-refined : goal.returns-in-Ok-Refused-clause-refined
returns-in-Ok-Refused-clause-refined g c = λ entry f.
    let lane = c.args.refining.now.lane in
    let came = subst (Visits c.args.self.now c.args.seat.now.place c.visit.new.seat.place lane) c.in-Ok-Refused.field-0-is c.in-Ok-Refused.ensures.visits in
    refined_looks c.args.self.now entry c.args.seat.now.place c.visit.new.seat.place lane c.args.refining.now _ c.requires.ready.sits c.requires.lane f came refl refl

pub returns-in-Err-clause-refined : goal.returns-in-Err-clause-refined
returns-in-Err-clause-refined g c = λ entry f.
    refined_looks c.args.self.now entry c.args.seat.now.place c.visit.new.seat.place c.args.refining.now.lane c.args.refining.now _ c.requires.ready.sits c.requires.lane f c.in-Err.ensures.visits refl refl

use Rattle.std.proofs.Common.{refl, ap}
use Rattle.service.specs.declared.refining.Refining.{Refining}
use Rattle.service.proofs.RefineLemmas.{refined_same, refined_as, ready_as}
use Rattle.service.proofs.shop.Shop.refine_lanes.Goals as goal
use Rattle.service.proofs.shop.Shop.refine_lanes.Goals.{then-not-refining-lane+in_ok-refine, else-not-refining-lane}

pub returns-in_err-refine-clause-refined : goal.returns-in_err-refine-clause-refined
returns-in_err-refine-clause-refined g c = λ entry f.
    let r : Refining = record c.loop-lane.refining { lane = c.loop-lane.lane } in
    c.in_err-refine.ensures.refined entry (refined_same c.args.self.now entry c.loop-lane.seat.place c.loop-lane.refining r refl refl (c.loop-lane.invariant.1 entry f))

pub loop-lane-preserved : goal.loop-lane-preserved
loop-lane-preserved g c = elim c.if-not-refining-lane.branch [
  | then-not-refining-lane+in_ok-refine w ↦ (
      let r : Refining = record c.loop-lane.refining { lane = c.loop-lane.lane } in
      let shop = c.args.self.now in (
        ready_as shop w.refine.new.seat.place _ w.refine.new.seat.pinned _ (ap (λ s. s.place) w.seat-is) (ap (λ s. s.pinned) w.seat-is) w.refine.ensures.ready,
        λ entry f. refined_as shop entry w.refine.new.seat.place _ w.refine.new.refining _ (ap (λ s. s.place) w.seat-is) w.refining-is
            (w.refine.ensures.refined entry (refined_same shop entry c.loop-lane.seat.place c.loop-lane.refining r refl refl (c.loop-lane.invariant.1 entry f))),
      ))
  | else-not-refining-lane w ↦ (
      let shop = c.args.self.now in (
        ready_as shop c.loop-lane.seat.place _ c.loop-lane.seat.pinned _ (ap (λ s. s.place) w.seat-is) (ap (λ s. s.pinned) w.seat-is) c.loop-lane.invariant.0,
        λ entry f. refined_as shop entry c.loop-lane.seat.place _ c.loop-lane.refining _ (ap (λ s. s.place) w.seat-is) w.refining-is (c.loop-lane.invariant.1 entry f),
      ))
]

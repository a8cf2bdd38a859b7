use Rattle.std.proofs.Common.{◌<◌, Some, arith, ap, ◌∙◌, length-set}
use Rattle.std.proofs.lemmas.List.Elements.{recursion_from_All}
use Rattle.round_slots.specs.Ends.{EndsAt}
use Rattle.round_slots.proofs.EndLemmas.{sits_seat, ends_at, fronts_more}
use Rattle.round_slots.specs.Claims.{front_of}
use Rattle.round_slots.proofs.store.Store.close.Goals as goal

pub gather-place-requires-clause-sit : goal.gather-place-requires-clause-sit
gather-place-requires-clause-sit g c k d lt = sits_seat g.T.Numbered.possible _ _ _ (c.requires.sit k d lt)

pub loop-lane-preserved : goal.loop-lane-preserved
loop-lane-preserved g c =
    let i = c.loop-lane.invariant in
    let z = c.args.self.sized in
    let key = c.args.self.words.shared.key in
    let lt : c.loop-lane.lane < key.lanes = omega (arith, z.2, c.len-lanes.ensures, c.loop-lane-test.true) in
    let here = ends_at g.T.Numbered.possible _ key (λ seat. seat.place) c.args.seats.items c.gather-place.result _ _ c.loop-lane.lane c.word.result (Some (front_of c.unpack-round.result))
    c.gather-place.ensures.seat c.close_with-closed.ensures.values.2 (recursion_from_All _ _ c.gather-place.ensures.covers) lt c.word.ensures (ap (λ w. Some (front_of w)) c.unpack-round.ensures.word) in
    let more = fronts_more (EndsAt g.T.Numbered.possible key (λ seat. seat.place) c.args.seats.items) c.loop-lane.fronts c.loop-lane.lane (Some (front_of c.unpack-round.result)) (omega (arith, i.0, z.5, lt)) i.1 i.2 here in
    (length-set c.loop-lane.fronts c.loop-lane.lane (Some (front_of c.unpack-round.result)) ∙ i.0, more.0, more.1)

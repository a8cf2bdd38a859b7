use Rattle.std.proofs.Common.{◌≡◌, refl, sym, subst}
use Rattle.access_facts.specs.Rows.{AreInside}
use Rattle.round_slots.specs.Seats.{Pins}
use Rattle.rounds.specs.declared.round.Round.{Round}
use Rattle.service.specs.Requests.{reading_text}
use Rattle.service.specs.Seats.{key_of}
use Rattle.service.proofs.AdvanceLemmas.{ready_pinned, watched}
use Rattle.service.proofs.PinnedLemmas.{belongs_here, pinned_round, no_older}
use Rattle.service.proofs.ReadingLemmas.{readable}
use Rattle.service.proofs.session.Session.read.Goals as goal

pub show_reading-shown-requires-clause-inside : goal.show_reading-shown-requires-clause-inside
show_reading-shown-requires-clause-inside g c =
    let shop = c.args.shop.now in
    let r = c.pin-pin.result.shown.value in
    subst (λ (q : Round). AreInside q.cells.image) (sym c.value.ensures) (readable shop.image shop.settings r c.requires.image (belongs_here shop c.lane_of-lane.result r c.pin-pin.ensures.belongs).0)

pub returns-in-Ok-clause-ready : goal.returns-in-Ok-clause-ready
returns-in-Ok-clause-ready g c =
    ready_pinned c.args.shop.now c.args.self.now.seat.place c.lane_of-lane.result c.requires.ready.sits c.requires.ready.no_turn c.lane_of-lane.ensures.within
    _ _ _ _ c.pin-pin.ensures.pins c.pin-pin.ensures.sits c.leave.ensures.place c.leave.ensures.unpinned

pub returns-in-Err-clause-ready : goal.returns-in-Err-clause-ready
returns-in-Err-clause-ready g c =
    ready_pinned c.args.shop.now c.args.self.now.seat.place c.lane_of-lane.result c.requires.ready.sits c.requires.ready.no_turn c.lane_of-lane.ensures.within
    _ _ _ _ c.pin-pin.ensures.pins c.pin-pin.ensures.sits c.leave.ensures.place c.leave.ensures.unpinned

pub returns-in-Ok-clause-reads : goal.returns-in-Ok-clause-reads
returns-in-Ok-clause-reads g c =
    let r = c.pin-pin.result.shown.value in
    let shop = c.args.shop.now in
    let old = c.args.self.now.seat.place in
    let lane = c.lane_of-lane in
    record {
      same_lane = refl;
      pinned = r;
      is_pinned = pinned_round shop c.args.self.now.lane lane.result old c.leave.new.seat.place r lane.ensures.lane c.pin-pin.ensures.belongs
          (subst (λ p. Pins (key_of shop) old p lane.result r.number) (sym c.leave.ensures.place) c.pin-pin.ensures.pins);
      no_older = no_older shop c.args.self.now.lane lane.result old c.pin-pin.new.seat.place r.number lane.ensures.lane c.pin-pin.ensures.pins;
      text_is = subst (λ (q : Round). c.show_reading-shown.new.self ≡ reading_text q c.args.request.now) c.value.ensures c.in-Ok.ensures;
      round_is = c.round.ensures;
    }

pub returns-in-Err-clause-reads : goal.returns-in-Err-clause-reads
returns-in-Err-clause-reads g c =
    watched c.args.shop.now c.args.self.now.seat.place c.lane_of-lane.result c.requires.ready.sits c.requires.ready.no_turn c.lane_of-lane.ensures.within
    c.args.self.now.lane _ _ _ c.lane_of-lane.ensures.lane c.pin-pin.ensures.pins c.leave.ensures.place

use Rattle.std.proofs.Common.{◌≤◌, length, sym, subst, arith}
use Rattle.round_slots.specs.Seats.{Pins}
use Rattle.rounds.specs.declared.round.Round.{Round}
use Rattle.rounds.proofs.SizeLemmas.{few_nodes, few_warnings}
use Rattle.service.specs.Seats.{key_of, IsNoOlder}
use Rattle.service.specs.Replies.{IsSliceReply}
use Rattle.service.proofs.AdvanceLemmas.{ready_pinned}
use Rattle.service.proofs.PinnedLemmas.{belongs_here, pinned_round, no_older}
use Rattle.service.proofs.session.Session.slice.Goals as goal

pub show_slice-requires-clause-nodes : goal.show_slice-requires-clause-nodes
show_slice-requires-clause-nodes g c =
    let shop = c.args.shop.now in
    let here = belongs_here shop c.lane_of-lane.result c.pin-pin.result.shown.value c.pin-pin.ensures.belongs in
    subst (λ (r : Round). length r.graph.flow.nodes ≤ 4096) (sym c.value.ensures) (few_nodes shop.image shop.settings c.pin-pin.result.shown.value here.0)

pub show_slice-requires-clause-warnings : goal.show_slice-requires-clause-warnings
show_slice-requires-clause-warnings g c =
    let shop = c.args.shop.now in
    let here = belongs_here shop c.lane_of-lane.result c.pin-pin.result.shown.value c.pin-pin.ensures.belongs in
    let few : length c.value.result.now.warnings.items ≤ 32770 = subst (λ (r : Round). length r.warnings.items ≤ 32770) (sym c.value.ensures) (few_warnings shop.image shop.settings c.pin-pin.result.shown.value here.0) in
    omega (arith, few)

pub returns-clause-answers : goal.returns-clause-answers
returns-clause-answers g c =
    let r = c.pin-pin.result.shown.value in
    let shop = c.args.shop.now in
    let lane = c.lane_of-lane in (
      r,
      pinned_round shop c.args.self.now.lane lane.result _ _ r lane.ensures.lane c.pin-pin.ensures.belongs
          (subst (λ p. Pins (key_of shop) c.args.self.now.seat.place p lane.result r.number) (sym c.leave.ensures.place) c.pin-pin.ensures.pins),
      subst (λ (q : Round). IsSliceReply q c.args.at c.args.skip_sp c.show_slice.new.self) c.value.ensures c.show_slice.ensures,
      c.round.ensures,
    )

pub returns-clause-no_older : goal.returns-clause-no_older
returns-clause-no_older g c =
    subst (IsNoOlder c.args.shop.now c.args.self.now.lane c.args.self.now.seat.place) (sym c.round.ensures)
    (no_older c.args.shop.now c.args.self.now.lane c.lane_of-lane.result _ _ _ c.lane_of-lane.ensures.lane c.pin-pin.ensures.pins)

pub returns-clause-ready : goal.returns-clause-ready
returns-clause-ready g c =
    ready_pinned c.args.shop.now c.args.self.now.seat.place c.lane_of-lane.result c.requires.ready.sits c.requires.ready.no_turn c.lane_of-lane.ensures.within
    _ _ _ _ c.pin-pin.ensures.pins c.pin-pin.ensures.sits c.leave.ensures.place c.leave.ensures.unpinned

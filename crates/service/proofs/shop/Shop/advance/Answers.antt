use Rattle.std.proofs.Common.{◌+◌, ◌<◌, ap, sym, subst, ◌∙◌}
use Rattle.service.proofs.AdvanceLemmas.{ready_grown, advance_refused, advance_published, advance_gave_up}
use Rattle.service.proofs.NumberLemmas.{small_number}
use Rattle.service.proofs.PinnedLemmas.{belongs_here}
use Rattle.service.proofs.shop.Shop.advance.Goals as goal

pub returns-in-Ok-made-clause-advances : goal.returns-in-Ok-made-clause-advances
returns-in-Ok-made-clause-advances g c =
    let claim = c.in-Ok.ensures.claims in
    let p = c.in-Ok-made.ensures.publishes in
    let number = p.0 ∙ ap (λ r. r.number + 1) c.value-in-Ok.ensures in (
      number,
      advance_published c.args.self.now c.args.seat.now.place c.args.held.lane c.requires.sits c.requires.no_turn c.requires.lane _ _ _ _ _ _ claim.0 claim.1 c.leave-in-Ok.ensures.place p.1.0 _ c.publish_next-made.ensures.agrees p.1.1
          (number ∙ ap (λ n. n + 1) (sym c.round-number.ensures)),
    )

pub returns-in-Ok-made-clause-ready : goal.returns-in-Ok-made-clause-ready
returns-in-Ok-made-clause-ready g c =
    let grows = (returns-in-Ok-made-clause-advances g c).1.grows in
    ready_grown c.args.self.now c.args.seat.now.place c.args.held.lane c.requires.sits c.requires.no_turn c.requires.lane _ _ _ _ _ grows c.publish_next-made.ensures.sits c.leave-in-Ok.ensures.place c.leave-in-Ok.ensures.unpinned

pub returns-in-Err-made-clause-advances : goal.returns-in-Err-made-clause-advances
returns-in-Err-made-clause-advances g c =
    let claim = c.in-Ok.ensures.claims in
    advance_gave_up c.args.self.now c.args.seat.now.place c.args.held.lane c.requires.sits c.requires.no_turn c.requires.lane _ _ _ _ _ _ claim.0 claim.1 c.leave-in-Ok.ensures.place c.in-Err-made.ensures.gives_up

pub returns-in-Err-made-clause-ready : goal.returns-in-Err-made-clause-ready
returns-in-Err-made-clause-ready g c =
    let looks = returns-in-Err-made-clause-advances g c in
    ready_grown c.args.self.now c.args.seat.now.place c.args.held.lane c.requires.sits c.requires.no_turn c.requires.lane _ _ _ _ _ looks.1 c.publish_next-made.ensures.sits c.leave-in-Ok.ensures.place c.leave-in-Ok.ensures.unpinned

pub returns-in-Err-clause-advances : goal.returns-in-Err-clause-advances
returns-in-Err-clause-advances g c =
    advance_refused c.args.self.now c.args.seat.now.place c.args.held.lane c.requires.sits c.requires.no_turn c.requires.lane _ _ _ _ c.in-Err.ensures.refuses c.leave-in-Err.ensures.place

pub returns-in-Err-clause-ready : goal.returns-in-Err-clause-ready
returns-in-Err-clause-ready g c =
    let looks = returns-in-Err-clause-advances g c in
    ready_grown c.args.self.now c.args.seat.now.place c.args.held.lane c.requires.sits c.requires.no_turn c.requires.lane _ _ _ _ _ looks.1 c.claim.ensures.sits c.leave-in-Err.ensures.place c.leave-in-Err.ensures.unpinned

pub claim-requires-clause-round : goal.claim-requires-clause-round
claim-requires-clause-round g c =
    let shop = c.args.self.now in
    let r = c.args.held.pin.shown.value in
    subst (λ n. n < 4294967295) (sym c.round-number.ensures) (small_number shop.image shop.settings _ r c.requires.settings (belongs_here shop c.args.held.lane r c.requires.belongs).0)

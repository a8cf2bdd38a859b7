use Rattle.std.proofs.Common.{sym, subst}
use Rattle.round_slots.proofs.ViewLaws.{HasNoTurnElsewhere, elsewhere, elsewhere_after, claims_elsewhere, whole}
use Rattle.round_slots.proofs.tests.refused.Goals as goal

pub returns-in-Ok-clause-no_turn : goal.returns-in-Ok-clause-no_turn
returns-in-Ok-clause-no_turn c =
    let key = c.args.store.now.words.shared.key in
    let old = c.args.seat.now.place in
    let mid = c.claim.new.seat.place in
    let won = c.in-Ok.ensures.claims in
    let lane = c.in-Ok.turn.lane in
    let apart = claims_elsewhere key old mid c.args.lane c.args.round _ won.1 (elsewhere key old c.args.lane c.requires.no_turn) in
    whole key c.give_up.new.seat.place lane (elsewhere_after key mid c.give_up.new.seat.place lane _ c.give_up.ensures.gives_up.1 (subst (HasNoTurnElsewhere key mid) (sym won.0) apart)) c.give_up.ensures.ends

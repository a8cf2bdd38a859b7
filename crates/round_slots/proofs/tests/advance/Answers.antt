use Rattle.std.proofs.Common.{sym, subst}
use Rattle.round_slots.proofs.ViewLaws.{HasNoTurnElsewhere, elsewhere, elsewhere_after, claims_elsewhere, refuses_elsewhere, whole}
use Rattle.round_slots.proofs.tests.advance.Goals as goal

pub returns-in-Ok-clause-no_turn : goal.returns-in-Ok-clause-no_turn
returns-in-Ok-clause-no_turn g c =
    let key = c.args.store.now.words.shared.key in
    let old = c.args.seat.now.place in
    let loaded = c.load-round.new.seat.place in
    let mid = c.claim.new.seat.place in
    let won = c.in-Ok.ensures.claims in
    let lane = c.in-Ok.turn.lane in
    let first = elsewhere_after key old loaded c.args.lane _ c.load-round.ensures.loads.1.view (elsewhere key old c.args.lane c.requires.no_turn) in
    let apart = claims_elsewhere key loaded mid c.args.lane _ _ won.1 first in
    whole key c.publish.new.seat.place lane (elsewhere_after key mid c.publish.new.seat.place lane _ c.publish.ensures.publishes.2 (subst (HasNoTurnElsewhere key mid) (sym won.0) apart)) c.publish.ensures.ends

pub returns-in-Err-clause-no_turn : goal.returns-in-Err-clause-no_turn
returns-in-Err-clause-no_turn g c =
    let key = c.args.store.now.words.shared.key in
    let old = c.args.seat.now.place in
    let loaded = c.load-round.new.seat.place in
    let first = elsewhere_after key old loaded c.args.lane _ c.load-round.ensures.loads.1.view (elsewhere key old c.args.lane c.requires.no_turn) in
    whole key c.claim.new.seat.place c.args.lane (refuses_elsewhere key loaded c.claim.new.seat.place c.args.lane _ _ c.in-Err.ensures.refuses first) c.in-Err.ensures.still_none

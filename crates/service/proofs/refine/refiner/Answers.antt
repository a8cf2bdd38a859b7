use Rattle.std.proofs.Common.{◌<◌, refl, sym, subst}
use Rattle.service.proofs.RefineLemmas.{refined_none}
use Rattle.service.proofs.refine.refiner.Goals as goal

pub loop-init : goal.loop-init
loop-init g c = (c.requires.ready, refined_none c.args.shop.now c.args.seat.now.place _ c.requires.ready.no_turn refl refl)

pub returns-then-is_done-clause-last : goal.returns-then-is_done-clause-last
returns-then-is_done-clause-last g c = λ lane lt.
    c.loop.invariant.1.settled lane lt (c.is_done.ensures c.if-is_done.true lane (subst (λ n. lane < n) (sym c.lane_count.ensures.lanes) lt))

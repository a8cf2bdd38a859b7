use Rattle.std.proofs.Common.{map, take, sym, subst}
use Rattle.sweeps.specs.Sweeps.{AreRising}
use Rattle.sweeps.specs.Kept.{strangers}
use Rattle.sweeps.proofs.EnterLemmas.{arrivals_rise}
use Rattle.sweeps.proofs.CodeLemmas.{met_more}
use Rattle.sweeps.proofs.growing.meet_list.Goals as goal

pub meet_one-requires : goal.meet_one-requires
meet_one-requires g c =
    subst (λ rows. AreRising (g.D.Domain.meaning c.args.domain.now) (map (λ r. r.place) rows)) (sym c.loop-arrival.invariant)
    (arrivals_rise (g.D.Domain.meaning c.args.domain.now) (g.met.D.Domain.lawful c.args.domain.now) c.args.rows.now.items (strangers (take c.loop-arrival.arrival-index c.args.arrivals.now)) c.requires)

pub loop-arrival-preserved : goal.loop-arrival-preserved
loop-arrival-preserved g c =
    met_more (g.D.Domain.meaning c.args.domain.now) c.args.rows.now.items c.args.arrivals.now c.loop-arrival.arrival-index c.arrival-item.result c.loop-arrival.rows.items _ c.loop-arrival-test.true c.arrival-item.is c.loop-arrival.invariant c.in_ok-meet_one.ensures

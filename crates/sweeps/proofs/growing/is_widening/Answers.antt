use Rattle.std.proofs.Common.{◌∙◌, sym}
use Rattle.std.specs.Prelude.{nat_le}
use Rattle.sweeps.specs.Kept.{pair_of}
use Rattle.sweeps.proofs.StepLemmas.{any_here}
use Rattle.sweeps.proofs.growing.is_widening.Goals as goal

pub returns-then-goes_back : goal.returns-then-goes_back
returns-then-goes_back g c =
    let m = g.D.Domain.meaning c.args.domain.now in
    any_here (λ e. nat_le (m.address e.0) (m.address c.args.place.now)) pair_of c.args.arrivals.now c.loop-arrival.arrival-index c.arrival-item.result c.loop-arrival-test.true c.arrival-item.is (sym c.goes_back.ensures ∙ c.if-goes_back.true)

use Rattle.std.proofs.Common.{[], map, take, sym, subst}
use Rattle.sweeps.specs.Sweeps.{AreRising}
use Rattle.sweeps.specs.Kept.{strangers, all_arrivals}
use Rattle.sweeps.proofs.EnterLemmas.{arrivals_rise}
use Rattle.sweeps.proofs.growing.new_rows.Goals as goal

pub meet_list-requires : goal.meet_list-requires
meet_list-requires g c =
    subst (λ rows. AreRising (g.D.Domain.meaning c.args.domain.now) (map (λ r. r.place) rows)) (sym c.loop-k.invariant)
    (arrivals_rise (g.D.Domain.meaning c.args.domain.now) (g.met.D.Domain.lawful c.args.domain.now) [] (strangers (all_arrivals (take c.loop-k.k-index c.args.kept.now))) tt)

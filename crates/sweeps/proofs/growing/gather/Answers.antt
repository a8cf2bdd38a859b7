use Rattle.std.proofs.Common.{sym, subst, map, ◌≡◌}
use Rattle.sweeps.specs.Kept.{AreAimed, number_of, place_in}
use Rattle.sweeps.proofs.StepLemmas.{all_part}
use Rattle.sweeps.proofs.growing.gather.Goals as goal

pub add_list-requires-clause-aimed : goal.add_list-requires-clause-aimed
add_list-requires-clause-aimed g c =
    let m = g.D.Domain.meaning c.args.domain.now in
    subst (AreAimed m (map place_in c.args.kept.now)) (sym c.as_slice.ensures)
    (all_part (λ a. a.target ≡ number_of m (map place_in c.args.kept.now) a.place) (λ k. k.arrivals) c.args.kept.now c.loop-k.k-index c.k-item.result c.requires.aimed c.loop-k-test.true c.k-item.is)

use Rattle.std.proofs.Common.{◌∙◌, ap, map, arith}
use Rattle.sweeps.specs.Kept.{aimed_at, place_in, number_of}
use Rattle.sweeps.proofs.StepLemmas.{over_read}
use Rattle.sweeps.proofs.growing.aim_list.Goals as goal

pub loop-at-preserved : goal.loop-at-preserved
loop-at-preserved g c =
    let m = g.D.Domain.meaning c.args.domain.now in
    let x = c.index_mut.result.now in
    over_read (aimed_at m (map place_in c.args.kept.now)) c.into_vec-arrivals.result.items c.loop-at.arrivals.items c.loop-at.at x c.index.result.now _ (omega (arith, c.loop-at-test.true, c.len-at-end.ensures, c.into_vec-arrivals.result.ok.0)) c.loop-at.invariant c.index.ensures c.index_mut.ensures.value
    (λ same. ap (λ o. record x { target = o }) (c.target.ensures ∙ ap (λ a. number_of m (map place_in c.args.kept.now) a.place) same))

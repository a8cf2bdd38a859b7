use Rattle.std.proofs.Common.{◌∙◌, ap, map, arith}
use Rattle.sweeps.specs.Kept.{with_stale, moved}
use Rattle.sweeps.proofs.StepLemmas.{over_read, over_all}
use Rattle.sweeps.proofs.growing.note_stale.Goals as goal

pub loop-at-preserved : goal.loop-at-preserved
loop-at-preserved g c =
    let m = g.D.Domain.meaning c.args.domain.now in
    let x = c.index_mut.result.now in
    over_read (with_stale m c.in_ok-places.places.items) c.args.kept.now.items c.loop-at.kept.items c.loop-at.at x c.index.result.now _ (omega (arith, c.loop-at-test.true, c.len-at-end.ensures, c.args.kept.now.ok.0)) c.loop-at.invariant c.index.ensures c.index_mut.ensures.value
    (λ same. ap (λ b. record x { stale = b }) (c.is_stale.ensures ∙ ap (λ l. (with_stale m l c.index.result.now).stale) c.as_slice-in-loop-at.ensures.value ∙ ap (λ k. (with_stale m c.in_ok-places.places.items k).stale) same))

pub returns : goal.returns
returns g c =
    over_all _ c.args.kept.now.items c.loop-at.kept.items c.loop-at.at (omega (arith, c.loop-at-test.false, c.len-at-end.ensures, c.args.kept.now.ok.0)) c.loop-at.invariant
    ∙ ap (λ l. map (with_stale (g.D.Domain.meaning c.args.domain.now) l) c.args.kept.now.items) (c.in_ok-places.ensures ∙ ap moved c.as_slice.ensures.value)

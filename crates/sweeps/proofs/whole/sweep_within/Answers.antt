use Rattle.std.proofs.Common.{◌∙◌, map, subst, sym}
use Rattle.sweeps.specs.Sweeps.{AreRising}
use Rattle.sweeps.proofs.SlotLemmas.{map-map}
use Rattle.sweeps.proofs.WholeLemmas.{swept_rows, swept_full}
use Rattle.sweeps.proofs.whole.sweep_within.Goals as goal

pub returns-clause-rows : goal.returns-clause-rows
returns-clause-rows g c =
    c.in_ok-rows.ensures
    ∙ swept_rows (g.D.Domain.meaning c.args.domain.now) c.args.most c.args.entry.now c.args.initial.now _ _ _ _ _ c.in_ok-grown.ensures.rows c.in_ok-shrink.ensures.rows c.in_ok-shrink-2.ensures.rows c.in_ok-shrink-3.ensures.rows c.in_ok-shrink-4.ensures.rows

pub returns-clause-full : goal.returns-clause-full
returns-clause-full g c = swept_full (g.D.Domain.meaning c.args.domain.now) c.args.most c.args.entry.now c.args.initial.now _ c.in_ok-grown.ensures.full

pub returns-clause-rising : goal.returns-clause-rising
returns-clause-rising g c =
    let m = g.D.Domain.meaning c.args.domain.now in
    subst (λ l. AreRising m (map (λ r. r.place) l)) (sym c.in_ok-rows.ensures) (subst (AreRising m) (sym (map-map (λ r. r.place) (λ k. k.row) c.shrink-4.new.kept.items)) c.in_ok-shrink-4.ensures.rising)

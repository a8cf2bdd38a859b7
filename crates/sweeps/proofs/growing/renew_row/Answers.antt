use Rattle.sweeps.proofs.CodeLemmas.{row_stays, row_renewed}
use Rattle.sweeps.specs.Kept.{kept_table}
use Rattle.sweeps.proofs.growing.renew_row.Goals as goal

pub returns-then-not-index : goal.returns-then-not-index
returns-then-not-index g c = λ d. row_stays (g.D.Domain.meaning c.args.domain.now) (kept_table c.args.kept.now.items) c.args.kept.now.items c.args.at c.index.result.now d c.requires c.index.ensures c.if-not-index.true

pub returns : goal.returns
returns g c =
    λ d. row_renewed (g.D.Domain.meaning c.args.domain.now) c.args.kept.now.items c.as_slice.result.now c.args.at c.index_mut.result.now c.index.result.now c.index-2.result.now d c.in_ok-arrivals.arrivals c.requires c.index_mut.ensures.value c.index.ensures c.index-2.ensures
    c.if-not-index.false c.as_slice.ensures.value c.in_ok-arrivals.ensures

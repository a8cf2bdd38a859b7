use Rattle.std.proofs.Common.{◌∙◌, ap, true, false}
use Rattle.std.specs.List.{insert}
use Rattle.sweeps.specs.Kept.{rank_by}
use Rattle.sweeps.proofs.CodeLemmas.{puts_there}
use Rattle.sweeps.proofs.growing.put.Goals as goal

pub returns : goal.returns
returns g c =
    let m = g.D.Domain.meaning c.args.domain.now in
    puts_there m c.args.kept.now.items c.insert.new.self.items c.args.row c.rank-at.result (c.rank-at.ensures.rank ∙ ap (rank_by (λ k. m.before k.row.place c.args.row.place)) c.as_slice.ensures.value)
    (c.in_ok-insert.ensures.items ∙ ap (λ l. insert c.args.kept.now.items c.rank-at.result (record { row = c.args.row; changed = true; stale = false; arrivals = l })) c.new.ensures)

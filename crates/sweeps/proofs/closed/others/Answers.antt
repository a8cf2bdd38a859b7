use Rattle.sweeps.proofs.ClosedLemmas.{no_others}
use Rattle.sweeps.proofs.closed.others.Goals as goal

pub returns-then-not-looks_at_others : goal.returns-then-not-looks_at_others
returns-then-not-looks_at_others g c =
    no_others (g.D.Domain.meaning c.args.domain.now) c.args.place.now c.args.table.now c.new-others.result.items (c.looks_at_others.ensures c.if-not-looks_at_others.true) c.new-others.ensures.items

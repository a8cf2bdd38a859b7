use Rattle.sweeps.proofs.ClosedLemmas.{no_others_kept}
use Rattle.sweeps.proofs.kept.others_kept.Goals as goal

pub returns-then-not-looks_at_others : goal.returns-then-not-looks_at_others
returns-then-not-looks_at_others g c =
    no_others_kept (g.D.Domain.meaning c.args.domain.now) c.args.place.now c.args.kept.now c.new.result.items (c.looks_at_others.ensures c.if-not-looks_at_others.true) c.new.ensures.items

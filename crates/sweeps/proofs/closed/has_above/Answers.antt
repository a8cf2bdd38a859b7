use Rattle.std.proofs.Common.{◌∙◌, sym}
use Rattle.sweeps.proofs.PlaceLemmas.{none_found, later_found, same_found}
use Rattle.sweeps.proofs.closed.has_above.Goals as goal

pub returns-in-None : goal.returns-in-None
returns-in-None g c =
    none_found (g.D.Domain.meaning c.args.domain.now) (g.met.D.Domain.lawful c.args.domain.now) (λ e. e.0.now) (λ e. e.1.now) c.args.place.now c.args.state.now c.args.table.now _ c.requires c.rank-at.ensures c.in-None.ensures.lookup.0

pub returns-then-is_before : goal.returns-then-is_before
returns-then-is_before g c =
    later_found (g.D.Domain.meaning c.args.domain.now) (g.met.D.Domain.lawful c.args.domain.now) (λ e. e.0.now) (λ e. e.1.now) c.args.place.now c.args.state.now c.args.table.now _ c.in-Some.entry.now c.requires c.rank-at.ensures
    c.in-Some.ensures.lookup.0 c.in-Some.ensures.lookup.1 (sym c.is_before.ensures ∙ c.if-is_before.true)

pub returns-else-is_before : goal.returns-else-is_before
returns-else-is_before g c =
    c.is_below.ensures ∙ same_found (g.D.Domain.meaning c.args.domain.now) (g.met.D.Domain.lawful c.args.domain.now) (λ e. e.0.now) (λ e. e.1.now) c.args.place.now c.args.state.now c.args.table.now _ c.in-Some.entry.now c.requires c.rank-at.ensures
    c.in-Some.ensures.lookup.0 c.in-Some.ensures.lookup.1 (sym c.is_before.ensures ∙ c.if-is_before.false)

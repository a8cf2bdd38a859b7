use Rattle.std.proofs.Common.{◌∙◌, sym}
use Rattle.sweeps.proofs.PlaceLemmas.{no_number, behind_number, same_number}
use Rattle.sweeps.proofs.kept.number.Goals as goal

pub returns-in-None : goal.returns-in-None
returns-in-None g c = no_number (g.D.Domain.meaning c.args.domain.now) (g.met.D.Domain.lawful c.args.domain.now) (λ k. k.row.place) c.args.place.now c.args.kept.now _ c.requires c.rank-at.ensures.rank c.in-None.ensures.lookup.0

pub returns-then-is_before : goal.returns-then-is_before
returns-then-is_before g c =
    behind_number (g.D.Domain.meaning c.args.domain.now) (g.met.D.Domain.lawful c.args.domain.now) (λ k. k.row.place) c.args.place.now c.args.kept.now _ c.in-Some.k.now c.requires c.rank-at.ensures.rank
    c.in-Some.ensures.lookup.0 c.in-Some.ensures.lookup.1 (sym c.is_before.ensures ∙ c.if-is_before.true)

pub returns-else-is_before : goal.returns-else-is_before
returns-else-is_before g c =
    same_number (g.D.Domain.meaning c.args.domain.now) (g.met.D.Domain.lawful c.args.domain.now) (λ k. k.row.place) c.args.place.now c.args.kept.now _ c.in-Some.k.now c.requires c.rank-at.ensures.rank
    c.in-Some.ensures.lookup.0 c.in-Some.ensures.lookup.1 (sym c.is_before.ensures ∙ c.if-is_before.false)

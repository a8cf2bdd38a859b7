use Rattle.std.proofs.Common.{◌∙◌, sym}
use Rattle.sweeps.proofs.PlaceLemmas.{near_number}
use Rattle.sweeps.proofs.kept.number_near.Goals as goal

pub returns-then-not-is_before-2 : goal.returns-then-not-is_before-2
returns-then-not-is_before-2 g c =
    near_number (g.D.Domain.meaning c.args.domain.now) (g.met.D.Domain.lawful c.args.domain.now) (λ k. k.row.place) c.args.place.now c.args.kept.now c.args.hint c.in-Some.k.now c.requires
    c.in-Some.ensures.lookup.0 c.in-Some.ensures.lookup.1 (sym c.is_before.ensures ∙ c.if-not-is_before.true) (sym c.is_before-then-not-is_before.ensures ∙ c.if-not-is_before-2.true)

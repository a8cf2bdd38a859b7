use Rattle.std.proofs.Common.{◌∙◌, sym, refl, arith}
use Rattle.sweeps.specs.declared.kept.Slot.TheVariants.{Due}
use Rattle.sweeps.proofs.StepLemmas.{none_changed, set_changed, some_below}
use Rattle.sweeps.proofs.growing.touch.Goals as goal

pub returns-in-None : goal.returns-in-None
returns-in-None g c =
    none_changed (g.D.Domain.meaning c.args.domain.now) (g.met.D.Domain.lawful c.args.domain.now) (λ k. k.row.place) c.args.place.now (λ k slot. Due) c.args.kept.now c.args.slots.now c.requires.slots (sym c.number.ensures ∙ c.in-None.is)

pub returns-then-at-slots : goal.returns-then-at-slots
returns-then-at-slots g c =
    set_changed (g.D.Domain.meaning c.args.domain.now) (g.met.D.Domain.lawful c.args.domain.now) (λ k. k.row.place) c.args.place.now (λ k slot. Due) c.args.kept.now c.args.slots.now c.in-Some.at Due (λ k slot. refl) c.requires.rising c.requires.slots (sym c.number.ensures ∙ c.in-Some.is)

pub returns-else-at-slots : goal.returns-else-at-slots
returns-else-at-slots g c =
    let lt = some_below (g.D.Domain.meaning c.args.domain.now) (λ k. k.row.place) c.args.place.now c.args.kept.now c.in-Some.at (sym c.number.ensures ∙ c.in-Some.is) in
    absurd (omega arith)

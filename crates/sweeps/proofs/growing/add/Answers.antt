use Rattle.std.proofs.Common.{◌∙◌, sym, ap, arith}
use Rattle.sweeps.specs.Kept.{came}
use Rattle.sweeps.proofs.StepLemmas.{none_changed, read_changed, some_below}
use Rattle.sweeps.proofs.growing.add.Goals as goal

pub returns-in-None : goal.returns-in-None
returns-in-None g c =
    let m = g.D.Domain.meaning c.args.domain.now in
    none_changed m (g.met.D.Domain.lawful c.args.domain.now) (λ k. k.row.place) c.args.arrival.now.place (λ k slot. came m c.args.counts k.row.state slot c.args.arrival.now.state) c.args.kept.now c.args.slots.now c.requires.slots (sym c.requires.aimed ∙ c.in-None.is)

pub returns-then-at-slots : goal.returns-then-at-slots
returns-then-at-slots g c =
    let lt = some_below (g.D.Domain.meaning c.args.domain.now) (λ k. k.row.place) c.args.arrival.now.place c.args.kept.now c.in-Some.at (sym c.requires.aimed ∙ c.in-Some.is) in
    absurd (omega arith)

pub returns-in_ok-next-in-Some : goal.returns-in_ok-next-in-Some
returns-in_ok-next-in-Some g c =
    let m = g.D.Domain.meaning c.args.domain.now in
    let a = c.args.arrival.now in
    read_changed m (g.met.D.Domain.lawful c.args.domain.now) (λ k. k.row.place) a.place (λ k slot. came m c.args.counts k.row.state slot a.state) c.args.kept.now c.args.slots.now c.in-Some.at c.index-kept-at.result c.index-slots-at.result c.replace-slot.new.dest c.in_ok-next-in-Some.next
    c.requires.rising c.requires.slots (sym c.requires.aimed ∙ c.in-Some.is) c.index-kept-at.is c.index-slots-at.is
    (c.in_ok-next-in-Some.ensures ∙ ap (λ k. came m c.args.counts k.row.state c.replace-slot.result a.state) (sym c.index-kept-at.is) ∙ ap (λ slot. came m c.args.counts c.index-kept-at.result.row.state slot a.state) (c.replace-slot.ensures.value ∙ sym c.index-slots-at.is))

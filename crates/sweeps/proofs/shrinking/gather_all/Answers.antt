use Rattle.std.proofs.Common.{◌∙◌, ap, sym, map, false}
use Rattle.sweeps.specs.Kept.{place_in, number_of, add_at, unaimed}
use Rattle.sweeps.proofs.shrinking.gather_all.Goals as goal

pub add-requires-clause-aimed : goal.add-requires-clause-aimed
add-requires-clause-aimed g c = c.number.ensures ∙ ap (number_of (g.D.Domain.meaning c.args.domain.now) (map place_in c.args.kept.now)) (sym c.in_ok-copy_place.ensures)

pub returns : goal.returns
returns g c =
    let m = g.D.Domain.meaning c.args.domain.now in
    let ks = c.args.kept.now in
    c.in_ok-add.ensures ∙ ap (λ p. add_at m false ks c.gather.new.slots (unaimed (p, c.in_ok-copy_state.field-0))) c.in_ok-copy_place.ensures
    ∙ ap (λ s. add_at m false ks c.gather.new.slots (unaimed (c.args.entry.now, s))) c.in_ok-copy_state.ensures ∙ ap (λ l. add_at m false ks l (unaimed (c.args.entry.now, c.args.initial.now))) c.in_ok-gather.ensures

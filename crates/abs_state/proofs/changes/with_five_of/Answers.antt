use Rattle.abs_state.proofs.FlagLemmas.{split, five_are}
use Rattle.abs_state.proofs.changes.with_five_of.Goals as goal

pub returns : goal.returns
returns c =
    let f = c.args.five_of.now in
    let g = c.args.others.now in
    five_are (record { zero = c.with.result; one = c.with-2.result }) f g
    (split c.with.result c.five.result c.direction.result f.zero g.zero c.with.ensures.members c.five.ensures c.direction.ensures)
    (split c.with-2.result c.five-2.result c.direction-2.result f.one g.one c.with-2.ensures.members c.five-2.ensures c.direction-2.ensures)

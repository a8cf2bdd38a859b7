use Rattle.std.proofs.Common.{inl, inr}
use Rattle.asi_cuts.specs.Adding.{IsIn, IsOf, IsOfEither}
use Rattle.asi_cuts.proofs.AddLemmas.{two_steps}
use Rattle.asi_cuts.proofs.spread.add_rows.Goals as goal

pub returns : goal.returns
returns c =
    let segments = c.args.segments.now in
    let first = c.args.first.now in
    let second = c.args.second.now in
    two_steps (IsOfEither segments first second) (IsIn segments (IsOf first)) (IsIn segments (IsOf second)) c.args.set.now c.add_row.new.set c.add_row-2.new.set c.add_row-2.result c.requires.few c.in-Ok.ensures c.add_row-2.ensures
    (λ x h. inl h) (λ x h. inr h) (λ x h. h)

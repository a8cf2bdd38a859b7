use Rattle.std.specs.declared.result.Result.TheVariants.{Ok, Err}
use Rattle.asi_cuts.proofs.AnswerLemmas.{least_of, not_many, same_segments, too_many_told}
use Rattle.asi_cuts.proofs.closing.close.Goals as goal

pub returns-in-Err : goal.returns-in-Err
returns-in-Err c =
    too_many_told c.args.image.now.segments c.args.kept.now c.args.facts.now c.in_ok-set.set c.add_forced-added.new.set c.sorted-cuts.result.now c.in-Err.halt c.in-TooMany.is c.in_ok-set.ensures
    (same_segments c.args.image.now.segments c.as_slice.result.now c.args.kept.now c.args.facts.now c.in_ok-set.set c.add_forced-added.new.set (Err c.in-Err.halt) c.as_slice.ensures c.in-Err.ensures) c.sorted-cuts.ensures.different c.sorted-cuts.ensures.same

pub returns : goal.returns
returns c =
    let a = same_segments c.args.image.now.segments c.as_slice.result.now c.args.kept.now c.args.facts.now c.in_ok-set.set c.add_forced-added.new.set (Ok tt) c.as_slice.ensures c.in-Ok.ensures in (
      least_of c.args.image.now.segments c.args.kept.now c.args.facts.now c.in_ok-set.set c.add_forced-added.new.set c.sorted-cuts.result.now c.in_ok-lists_of-in-Ok.field-0 c.in_ok-set.ensures a c.sorted-cuts.ensures.same c.in_ok-lists_of-in-Ok.ensures,
      not_many c.args.image.now.segments c.args.kept.now c.args.facts.now c.in_ok-set.set c.add_forced-added.new.set c.sorted-cuts.result.now a c.sorted-cuts.ensures.different c.sorted-cuts.ensures.same,
    )

use Rattle.first_cuts.proofs.TakingLemmas.{first_taken}
use Rattle.first_cuts.proofs.cuts.first_cuts.Goals as goal

pub returns : goal.returns
returns c =
    first_taken c.args.image.now c.in_ok-told.told.items c.as_slice.result.now c.new-taken.result.items c.take_all.new.taken.items c.take_constants.new.taken.items c.in_ok-told.ensures c.as_slice.ensures.value c.new-taken.ensures.items
    c.in_ok-take_all.ensures c.in_ok-take_constants.ensures

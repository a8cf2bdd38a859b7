use Rattle.first_cuts.specs.FirstCuts.{taken_onto}
use Rattle.first_cuts.proofs.TakingLemmas.{offset_taken, offsets_taken}
use Rattle.first_cuts.proofs.taking.take_all.Goals as goal

pub loop-offset-preserved : goal.loop-offset-preserved
loop-offset-preserved c =
    offset_taken c.args.offsets.now c.loop-offset.offset-index c.loop-offset.taken.items c.take_offset.new.taken.items (taken_onto c.args.taken.now.items c.args.offsets.now) c.loop-offset-test.true
    c.in_ok-take_offset.ensures c.loop-offset.invariant

pub returns : goal.returns
returns c = offsets_taken c.args.offsets.now c.loop-offset.offset-index c.loop-offset.taken.items (taken_onto c.args.taken.now.items c.args.offsets.now) c.loop-offset-test.false c.loop-offset.invariant

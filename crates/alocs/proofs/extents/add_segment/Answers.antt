use Rattle.std.proofs.Common.{arith}
use Rattle.std.proofs.lemmas.Int.{ints}
use Rattle.alocs.proofs.SegmentLemmas.{placed_in, placed_each}
use Rattle.alocs.proofs.extents.add_segment.Goals as goal

pub returns-clause-rise : goal.returns-clause-rise
returns-clause-rise c =
    placed_in c.args.extents.now.items c.as_slice.result.now c.insert.new.self.items _ _ c.args.segment.now c.in_ok-insert.ensures.items c.place_of-place.ensures.point c.as_slice.ensures.value c.place_of-place.ensures.within
    (omega (arith, ints)) (omega (arith, ints)) (omega (arith, ints)) (omega (arith, ints)) c.requires.apart c.requires.rise

pub returns-clause-each : goal.returns-clause-each
returns-clause-each c =
    placed_each c.args.extents.now.items c.insert.new.self.items _ _ c.args.segment.now c.in_ok-insert.ensures.items (omega (arith, ints)) (omega (arith, ints)) (omega (arith, ints))

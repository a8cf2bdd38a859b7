use Rattle.std.proofs.Common.{arith}
use Rattle.alocs.proofs.SegmentLemmas.{placed_at, clear_at, first_more, first_all}
use Rattle.alocs.proofs.extents.image_extents.Goals as goal

pub add_segment-requires-clause-placed : goal.add_segment-requires-clause-placed
add_segment-requires-clause-placed c = placed_at c.args.segments.now c.loop-segment.segment-index c.segment-item.result c.requires c.loop-segment-test.true c.segment-item.is

pub add_segment-requires-clause-apart : goal.add_segment-requires-clause-apart
add_segment-requires-clause-apart c =
    clear_at c.args.segments.now c.loop-segment.segment-index c.loop-segment.extents.items c.segment-item.result c.requires c.loop-segment.invariant c.loop-segment-test.true c.segment-item.is

pub loop-segment-preserved : goal.loop-segment-preserved
loop-segment-preserved c =
    first_more c.args.segments.now c.loop-segment.segment-index c.loop-segment.extents.items c.add_segment.new.extents.items c.segment-item.result c.loop-segment-test.true c.segment-item.is c.loop-segment.invariant
    c.in_ok-add_segment.ensures.rise c.in_ok-add_segment.ensures.each

pub returns : goal.returns
returns c = first_all c.args.segments.now c.loop-segment.segment-index c.loop-segment.extents.items (omega arith) c.loop-segment.invariant

use Rattle.std.proofs.Common.{◌++◌}
use Rattle.std.specs.List.{flat_map}
use Rattle.alocs.proofs.SegmentLemmas.{placed_at}
use Rattle.first_cuts.specs.FirstCuts.{ends_of}
use Rattle.first_cuts.proofs.TakingLemmas.{ends_pushed, ends_all, segment_pushed}
use Rattle.first_cuts.proofs.cuts.push_segments.Goals as goal

pub extent_of-extent-requires : goal.extent_of-extent-requires
extent_of-extent-requires c = placed_at c.args.segments.now c.loop-segment.segment-index c.segment-item.result c.requires c.loop-segment-test.true c.segment-item.is

pub loop-segment-preserved : goal.loop-segment-preserved
loop-segment-preserved c =
    ends_pushed ends_of c.args.segments.now c.loop-segment.segment-index c.segment-item.result c.loop-segment.cuts.items c.push_ends.new.cuts.items (c.args.cuts.now.items ++ flat_map ends_of c.args.segments.now)
    c.loop-segment-test.true c.segment-item.is
    (segment_pushed c.segment-item.result c.extent_of-extent.result.start c.extent_of-extent.result.end c.loop-segment.cuts.items c.push_ends.new.cuts.items c.extent_of-extent.ensures.start c.extent_of-extent.ensures.end c.in_ok-push_ends.ensures)
    c.loop-segment.invariant

pub returns : goal.returns
returns c = ends_all ends_of c.args.segments.now c.loop-segment.segment-index c.loop-segment.cuts.items (c.args.cuts.now.items ++ flat_map ends_of c.args.segments.now) c.loop-segment-test.false c.loop-segment.invariant

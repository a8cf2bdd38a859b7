use Rattle.std.proofs.Common.{sym, subst}
use Rattle.std.specs.List.{flat_map}
use Rattle.image_map.specs.Whole.{ArePlaced}
use Rattle.alocs.proofs.SegmentLemmas.{placed_at}
use Rattle.first_cuts.specs.Constants.{scanned_segment, constants}
use Rattle.first_cuts.specs.Taking.{taken_from}
use Rattle.first_cuts.proofs.TakingLemmas.{item_scanned, items_scanned}
use Rattle.first_cuts.proofs.constants.take_constants.Goals as goal

pub take_segment-requires-clause-placed : goal.take_segment-requires-clause-placed
take_segment-requires-clause-placed c =
    placed_at c.as_slice-segment-items.result.now c.loop-segment.segment-index c.segment-item.result (subst ArePlaced (sym c.as_slice-segment-items.ensures) c.requires.segments) c.loop-segment-test.true c.segment-item.is

pub loop-segment-preserved : goal.loop-segment-preserved
loop-segment-preserved c =
    item_scanned c.args.image.now (scanned_segment c.args.image.now) c.as_slice-segment-items.result.now c.loop-segment.segment-index c.segment-item.result c.loop-segment.taken.items c.take_segment.new.taken.items
    (taken_from c.args.image.now c.args.taken.now.items (flat_map (scanned_segment c.args.image.now) c.args.image.now.segments))
    c.loop-segment-test.true c.segment-item.is c.in_ok-take_segment.ensures c.loop-segment.invariant

pub returns : goal.returns
unfolding constants
returns c =
    items_scanned c.args.image.now (scanned_segment c.args.image.now) c.as_slice-segment-items.result.now c.loop-segment.segment-index c.loop-segment.taken.items
    (taken_from c.args.image.now c.args.taken.now.items (flat_map (scanned_segment c.args.image.now) c.args.image.now.segments))
    c.loop-segment-test.false c.loop-segment.invariant

use Rattle.std.proofs.Common.{arith}
use Rattle.std.specs.declared.result.Result.TheVariants.{Ok, Err}
use Rattle.image_map.specs.Whole.{end_of}
use Rattle.alocs.proofs.SegmentLemmas.{placed_at}
use Rattle.asi_cuts.specs.Adding.{IsInSegment}
use Rattle.asi_cuts.proofs.FactLemmas.{passed, same_window}
use Rattle.asi_cuts.proofs.ItemLemmas.{items_end, items_more, items_stop}
use Rattle.asi_cuts.proofs.spread.add_global.Goals as goal

pub extent_of-extent-requires : goal.extent_of-extent-requires
extent_of-extent-requires c = placed_at c.args.segments.now c.loop-segment.segment-index c.segment-item.result c.requires.placed c.loop-segment-test.true c.segment-item.is

pub returns-in-Err : goal.returns-in-Err
returns-in-Err c =
    let p = placed_at c.args.segments.now c.loop-segment.segment-index c.segment-item.result c.requires.placed c.loop-segment-test.true c.segment-item.is in
    items_stop (IsInSegment c.args.row.now) c.args.segments.now c.loop-segment.segment-index c.segment-item.result c.args.set.now c.loop-segment.set c.add_window.new.set c.in-Err.halt c.loop-segment-test.true c.segment-item.is c.loop-segment.invariant
    (same_window c.args.row.now _ _ _ _ c.loop-segment.set c.add_window.new.set (Err c.in-Err.halt) (passed c.extent_of-extent.result.start c.segment-item.result.start c.extent_of-extent.ensures.start (let h = p.high in omega arith)) (passed c.extent_of-extent.result.end (end_of c.segment-item.result) c.extent_of-extent.ensures.end p.high) c.in-Err.ensures)

pub loop-segment-preserved : goal.loop-segment-preserved
loop-segment-preserved c =
    let p = placed_at c.args.segments.now c.loop-segment.segment-index c.segment-item.result c.requires.placed c.loop-segment-test.true c.segment-item.is in
    items_more (IsInSegment c.args.row.now) c.args.segments.now c.loop-segment.segment-index c.segment-item.result c.args.set.now c.loop-segment.set c.add_window.new.set c.loop-segment-test.true c.segment-item.is c.loop-segment.invariant
    (same_window c.args.row.now _ _ _ _ c.loop-segment.set c.add_window.new.set (Ok tt) (passed c.extent_of-extent.result.start c.segment-item.result.start c.extent_of-extent.ensures.start (let h = p.high in omega arith)) (passed c.extent_of-extent.result.end (end_of c.segment-item.result) c.extent_of-extent.ensures.end p.high) c.in-Ok.ensures)

pub returns : goal.returns
returns c = items_end (IsInSegment c.args.row.now) c.args.segments.now c.loop-segment.segment-index c.args.set.now c.loop-segment.set c.loop-segment-test.false c.loop-segment.invariant

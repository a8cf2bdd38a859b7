use Rattle.std.proofs.Common.{pos}
use Rattle.asi_cuts.specs.Adding.{IsAt, IsIn}
use Rattle.asi_cuts.proofs.ItemLemmas.{held_item, items_more, items_stop}
use Rattle.asi_cuts.proofs.spread.add_list.Goals as goal

pub returns-in-Err : goal.returns-in-Err
returns-in-Err c =
    let cuts = c.args.list.now.cuts in
    let here = held_item c.as_slice-offset-items.result.now cuts c.loop-offset.offset-index (pos 0) c.as_slice-offset-items.ensures c.loop-offset-test.true in
    items_stop (λ offset. IsIn c.args.segments.now (IsAt c.args.list.now.region offset)) cuts c.loop-offset.offset-index _ c.args.set.now c.loop-offset.set c.add_one.new.set c.in-Err.halt here.0 here.1 c.loop-offset.invariant c.in-Err.ensures

pub loop-offset-preserved : goal.loop-offset-preserved
loop-offset-preserved c =
    let cuts = c.args.list.now.cuts in
    let here = held_item c.as_slice-offset-items.result.now cuts c.loop-offset.offset-index (pos 0) c.as_slice-offset-items.ensures c.loop-offset-test.true in
    items_more (λ offset. IsIn c.args.segments.now (IsAt c.args.list.now.region offset)) cuts c.loop-offset.offset-index _ c.args.set.now c.loop-offset.set c.add_one.new.set here.0 here.1 c.loop-offset.invariant c.in-Ok.ensures

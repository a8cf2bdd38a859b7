use Rattle.std.proofs.Common.{pos, negsuc, ◌∙◌}
use Rattle.asi_cuts.proofs.FactLemmas.{frame_fits, heap_fits, same_here}
use Rattle.asi_cuts.proofs.RegionLemmas.{row_global, row_window}
use Rattle.asi_cuts.proofs.spread.add_row.Goals as goal

pub returns-in-Global : goal.returns-in-Global
returns-in-Global c =
    row_global c.args.segments.now c.spread-spaced.result c.args.row.now c.args.set.now c.add_global.new.set c.add_global.result (c.spread-spaced.ensures.region ∙ c.in-Global.is) c.spread-spaced.ensures.same c.requires.few c.add_global.ensures

pub returns-in-Frame : goal.returns-in-Frame
returns-in-Frame c =
    row_window c.args.segments.now c.spread-spaced.result c.args.row.now (negsuc 1048575) (pos 65536) c.args.set.now c.add_window.new.set c.add_window.result
    (same_here c.args.segments.now c.spread-spaced.result.region c.args.row.now.region (negsuc 1048575) (pos 65536) c.spread-spaced.ensures.region (frame_fits c.args.segments.now c.args.row.now.region c.in-Frame.is)) c.spread-spaced.ensures.same c.requires.few c.add_window.ensures

pub returns-in-Heap : goal.returns-in-Heap
returns-in-Heap c =
    row_window c.args.segments.now c.spread-spaced.result c.args.row.now (pos 0) (pos 536870912) c.args.set.now c.add_window-in-Heap.new.set c.add_window-in-Heap.result
    (same_here c.args.segments.now c.spread-spaced.result.region c.args.row.now.region (pos 0) (pos 536870912) c.spread-spaced.ensures.region (heap_fits c.args.segments.now c.args.row.now.region c.in-Heap.is)) c.spread-spaced.ensures.same c.requires.few c.add_window-in-Heap.ensures

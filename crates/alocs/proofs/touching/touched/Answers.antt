use Rattle.std.proofs.Common.{negsuc, Some, None, arith}
use Rattle.std.specs.Prelude.{◌<ℤ◌}
use Rattle.std.proofs.lemmas.Int.{ints}
use Rattle.alocs.specs.Cells.{cells_in}
use Rattle.alocs.proofs.CellLemmas.{cells_in_rise, after_is}
use Rattle.alocs.proofs.TouchLemmas.{bound_of, first_after, touch_more, touch_skip, touch_end, touch_last, up_to_is, first_is}
use Rattle.alocs.proofs.touching.touched.Goals as goal

pub returns-in-None : goal.returns-in-None
returns-in-None c =
    let plan = c.args.plan.now in
    let cells = cells_in plan.region plan.extents.now plan.cuts.now in
    let at = c.loop-cell.passed in
    touch_last cells c.args.offsets.now c.args.len at c.loop-cell.cells.items c.in-Some.cell (cells_in_rise plan.region (negsuc 2147483647) plan.extents.now plan.cuts.now c.requires.rise)
    (after_is cells (Some c.in-Some.cell) c.in-Some.ensures at (omega (arith, ints)))
    (first_is c.args.offsets.now None c.in-None.ensures (bound_of c.in-Some.cell c.args.len) (omega (arith, ints)))
    (up_to_is cells c.args.offsets.now c.args.len _ at c.loop-cell.cells.items (omega (arith, ints)) c.loop-cell.invariant.touched)

pub loop-cell-smaller-then-first-cell : goal.loop-cell-smaller-then-first-cell
loop-cell-smaller-then-first-cell c =
    let plan = c.args.plan.now in
    let cells = cells_in plan.region plan.extents.now plan.cuts.now in
    let at = c.loop-cell.passed in
    let first = first_after (negsuc 2147483647) at cells c.in-Some.cell (cells_in_rise plan.region (negsuc 2147483647) plan.extents.now plan.cuts.now c.requires.rise)
    (after_is cells (Some c.in-Some.cell) c.in-Some.ensures at (omega (arith, ints))) in
    let above : at <ℤ c.in-Some.cell.end = first.above in
    omega (arith, ints)

pub loop-cell-preserved-then-first-cell : goal.loop-cell-preserved-then-first-cell
loop-cell-preserved-then-first-cell c =
    let plan = c.args.plan.now in
    let cells = cells_in plan.region plan.extents.now plan.cuts.now in
    let at = c.loop-cell.passed in
    record {
      near = omega (arith, ints);
      touched = up_to_is cells c.args.offsets.now c.args.len c.in-Some.cell.end _ c.push.new.self.items (omega (arith, ints))
          (touch_more cells c.args.offsets.now c.args.len at c.in-Some-first_from.first c.loop-cell.cells.items c.push.new.self.items c.in-Some.cell (cells_in_rise plan.region (negsuc 2147483647) plan.extents.now plan.cuts.now c.requires.rise)
          (after_is cells (Some c.in-Some.cell) c.in-Some.ensures at (omega (arith, ints)))
          (first_is c.args.offsets.now (Some c.in-Some-first_from.first) c.in-Some-first_from.ensures (bound_of c.in-Some.cell c.args.len) (omega (arith, ints)))
          (omega (arith, ints)) c.in_ok-push-in-Some-first_from.ensures.items
          (up_to_is cells c.args.offsets.now c.args.len _ at c.loop-cell.cells.items (omega (arith, ints)) c.loop-cell.invariant.touched));
    }

pub loop-cell-smaller : goal.loop-cell-smaller
loop-cell-smaller c =
    let plan = c.args.plan.now in
    let cells = cells_in plan.region plan.extents.now plan.cuts.now in
    let at = c.loop-cell.passed in
    let first = first_after (negsuc 2147483647) at cells c.in-Some.cell (cells_in_rise plan.region (negsuc 2147483647) plan.extents.now plan.cuts.now c.requires.rise)
    (after_is cells (Some c.in-Some.cell) c.in-Some.ensures at (omega (arith, ints))) in
    let above : at <ℤ c.in-Some.cell.end = first.above in
    omega (arith, ints)

pub loop-cell-preserved : goal.loop-cell-preserved
loop-cell-preserved c =
    let plan = c.args.plan.now in
    let cells = cells_in plan.region plan.extents.now plan.cuts.now in
    let at = c.loop-cell.passed in
    record {
      near = omega (arith, ints);
      touched = up_to_is cells c.args.offsets.now c.args.len c.in-Some-first_from.first _ c.loop-cell.cells.items (omega (arith, ints))
          (touch_skip cells c.args.offsets.now c.args.len at c.in-Some-first_from.first c.loop-cell.cells.items c.in-Some.cell (cells_in_rise plan.region (negsuc 2147483647) plan.extents.now plan.cuts.now c.requires.rise)
          (after_is cells (Some c.in-Some.cell) c.in-Some.ensures at (omega (arith, ints)))
          (first_is c.args.offsets.now (Some c.in-Some-first_from.first) c.in-Some-first_from.ensures (bound_of c.in-Some.cell c.args.len) (omega (arith, ints)))
          (omega (arith, ints))
          (up_to_is cells c.args.offsets.now c.args.len _ at c.loop-cell.cells.items (omega (arith, ints)) c.loop-cell.invariant.touched));
    }

pub returns : goal.returns
returns c =
    let plan = c.args.plan.now in
    let cells = cells_in plan.region plan.extents.now plan.cuts.now in
    let at = c.loop-cell.passed in
    touch_end cells c.args.offsets.now c.args.len at c.loop-cell.cells.items
    (after_is cells None c.in_default.ensures at (omega (arith, ints)))
    (up_to_is cells c.args.offsets.now c.args.len _ at c.loop-cell.cells.items (omega (arith, ints)) c.loop-cell.invariant.touched)

use Rattle.std.proofs.Common.{negsuc, Some, None, sym, arith}
use Rattle.std.proofs.lemmas.Int.{ints}
use Rattle.alocs.specs.Cells.{cells_in}
use Rattle.alocs.proofs.CellLemmas.{cells_in_rise, after_is}
use Rattle.alocs.proofs.OffsetLemmas.{held_none, held_in, held_out}
use Rattle.alocs.proofs.touching.Plan.cell_with.Goals as goal

pub returns-in-None : goal.returns-in-None
returns-in-None c =
    let plan = c.args.self.now in
    let cells = cells_in plan.region plan.extents.now plan.cuts.now in
    sym (held_none c.args.offset cells (after_is cells None c.in-None.ensures c.args.offset (omega (arith, ints))))

pub returns-then-cell-offset : goal.returns-then-cell-offset
returns-then-cell-offset c =
    let plan = c.args.self.now in
    let cells = cells_in plan.region plan.extents.now plan.cuts.now in
    sym (held_in c.args.offset cells c.in-Some.cell (after_is cells (Some c.in-Some.cell) c.in-Some.ensures c.args.offset (omega (arith, ints))) (omega (arith, ints)))

pub returns-else-cell-offset : goal.returns-else-cell-offset
returns-else-cell-offset c =
    let plan = c.args.self.now in
    let cells = cells_in plan.region plan.extents.now plan.cuts.now in
    sym (held_out (negsuc 2147483647) c.args.offset cells c.in-Some.cell (cells_in_rise plan.region (negsuc 2147483647) plan.extents.now plan.cuts.now c.requires.rise)
    (after_is cells (Some c.in-Some.cell) c.in-Some.ensures c.args.offset (omega (arith, ints))) (omega (arith, ints)))

use Rattle.std.proofs.Common.{sym, ◌∙◌, ap, Some, None}
use Rattle.abs_state.specs.Reads.{items_of}
use Rattle.abs_state.proofs.ReadLemmas.{part_read, parts_end}
use Rattle.abs_state.proofs.reads.cells_of_parts.Goals as goal

pub returns-in-None : goal.returns-in-None
returns-in-None c =
    part_read c.args.cells.now c.args.len c.args.xs.now c.loop-x.x-index c.x-item.result c.loop-x.out.items None _ c.loop-x-test.true c.x-item.is (ap items_of (sym c.in-None.is) ∙ c.in_ok-with_cells.ensures) c.loop-x.invariant

pub loop-x-preserved : goal.loop-x-preserved
loop-x-preserved c =
    part_read c.args.cells.now c.args.len c.args.xs.now c.loop-x.x-index c.x-item.result c.loop-x.out.items (Some c.in-Some.more.items) _ c.loop-x-test.true c.x-item.is (ap items_of (sym c.in-Some.is) ∙ c.in_ok-with_cells.ensures) c.loop-x.invariant

pub returns : goal.returns
returns c = parts_end c.args.cells.now c.args.len c.args.xs.now c.loop-x.x-index c.loop-x.out.items _ c.loop-x-test.false c.loop-x.invariant

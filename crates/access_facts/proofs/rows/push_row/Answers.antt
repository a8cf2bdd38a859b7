use Rattle.std.proofs.Common.{sym, ◌∙◌, arith}
use Rattle.access_facts.specs.Places.{picked}
use Rattle.access_facts.specs.Rows.{picks}
use Rattle.access_facts.proofs.CellLemmas.{none_picked_in}
use Rattle.access_facts.proofs.PickLemmas.{nothing_put, row_passed, read_picked, read_all_picked}
use Rattle.access_facts.proofs.rows.push_row.Goals as goal

pub returns-then-not-comes_to : goal.returns-then-not-comes_to
returns-then-not-comes_to c =
    let row = c.args.row.now in
    let test = c.args.test.now in
    nothing_put c.args.places.now.items (picked (picks test) row.first row.cells)
    (row_passed (picks test) row.first row.region row.cells c.requires.3 (none_picked_in row.region test (sym c.comes_to.ensures ∙ c.if-not-comes_to.true)))

pub loop-cell-preserved : goal.loop-cell-preserved
loop-cell-preserved c = (
  omega (arith, c.loop-cell.invariant.0),
  read_picked (picks c.args.test.now) c.loop-cell.place c.args.row.now.cells c.as_slice-cell-items.result.now c.loop-cell.cell-index _ c.picks.result c.loop-cell.places.items c.push_if.new.places.items _
      c.as_slice-cell-items.ensures c.loop-cell-test.true c.picks.ensures c.in_ok-push_if.ensures c.loop-cell.invariant.1,
)

pub returns : goal.returns
returns c = read_all_picked (picks c.args.test.now) c.loop-cell.place c.args.row.now.cells c.as_slice-cell-items.result.now c.loop-cell.cell-index c.loop-cell.places.items _ c.as_slice-cell-items.ensures c.loop-cell-test.false c.loop-cell.invariant.1

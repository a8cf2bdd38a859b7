use Rattle.access_facts.specs.Rows.{picks}
use Rattle.access_facts.proofs.PickLemmas.{row_alone, row_done, rows_done}
use Rattle.access_facts.proofs.rows.push_cells.Goals as goal

pub push_row-requires : goal.push_row-requires
push_row-requires c = row_alone (picks c.args.test.now) c.args.rows.now c.loop-row.row-index c.row-item.result c.loop-row.places.items _ c.loop-row-test.true c.row-item.is c.loop-row.invariant

pub loop-row-preserved : goal.loop-row-preserved
loop-row-preserved c = row_done (picks c.args.test.now) c.args.rows.now c.loop-row.row-index c.row-item.result c.loop-row.places.items c.push_row.new.places.items _ c.loop-row-test.true c.row-item.is c.in_ok-push_row.ensures c.loop-row.invariant

pub returns : goal.returns
returns c = rows_done (picks c.args.test.now) c.args.rows.now c.loop-row.row-index c.loop-row.places.items _ c.loop-row-test.false c.loop-row.invariant

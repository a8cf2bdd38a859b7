use Rattle.image_map.specs.declared.region.RegionId.TheVariants.{Heap}
use Rattle.alocs.specs.Cells.{cells_of}
use Rattle.access_facts.specs.Rows.{cells_in_rows}
use Rattle.access_facts.proofs.LoopLemmas.{region_step, region_end}
use Rattle.access_facts.proofs.graph_cells.push_heaps.Goals as goal

pub loop-key-preserved : goal.loop-key-preserved
loop-key-preserved c = (
  c.in_ok-push_region.ensures.rows,
  region_step (cells_of c.args.cells.now) Heap c.args.keys.now c.loop-key.key-index (cells_in_rows c.loop-key.growing.rows.items) (cells_in_rows c.push_region.new.growing.rows.items) _ c.loop-key-test.true c.in_ok-push_region.ensures.cells
      c.loop-key.invariant.1,
)

pub returns-clause-rows : goal.returns-clause-rows
returns-clause-rows c = c.loop-key.invariant.0

pub returns-clause-cells : goal.returns-clause-cells
returns-clause-cells c = region_end (cells_of c.args.cells.now) Heap c.args.keys.now c.loop-key.key-index (cells_in_rows c.loop-key.growing.rows.items) _ c.loop-key-test.false c.loop-key.invariant.1

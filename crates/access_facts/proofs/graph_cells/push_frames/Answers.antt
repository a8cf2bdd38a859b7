use Rattle.image_map.specs.declared.region.RegionId.TheVariants.{Frame}
use Rattle.alocs.specs.Cells.{cells_of}
use Rattle.access_facts.specs.Rows.{cells_in_rows}
use Rattle.access_facts.proofs.LoopLemmas.{region_step, region_end}
use Rattle.access_facts.proofs.graph_cells.push_frames.Goals as goal

pub loop-procedure-preserved : goal.loop-procedure-preserved
loop-procedure-preserved c = (
  c.in_ok-push_region.ensures.rows,
  region_step (cells_of c.args.cells.now) Frame c.args.procedures.now c.loop-procedure.procedure-index (cells_in_rows c.loop-procedure.growing.rows.items) (cells_in_rows c.push_region.new.growing.rows.items) _ c.loop-procedure-test.true c.in_ok-push_region.ensures.cells
      c.loop-procedure.invariant.1,
)

pub returns-clause-rows : goal.returns-clause-rows
returns-clause-rows c = c.loop-procedure.invariant.0

pub returns-clause-cells : goal.returns-clause-cells
returns-clause-cells c = region_end (cells_of c.args.cells.now) Frame c.args.procedures.now c.loop-procedure.procedure-index (cells_in_rows c.loop-procedure.growing.rows.items) _ c.loop-procedure-test.false c.loop-procedure.invariant.1

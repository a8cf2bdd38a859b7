use Rattle.transfer_flow.specs.Successors.{states_of}
use Rattle.access_facts.proofs.FlowLemmas.{graph_cells_are}
use Rattle.access_facts.proofs.RowLemmas.{image_is_inside}
use Rattle.access_facts.proofs.graph.flow.Goals as goal

pub graph_rows-requires : goal.graph_rows-requires
graph_rows-requires c = image_is_inside c.args.program.now.image.now.segments c.args.program.now.cells.now.image c.requires.image.segments c.requires.cells

pub flow_nodes-requires-clause-cells : goal.flow_nodes-requires-clause-cells
flow_nodes-requires-clause-cells c =
    graph_cells_are (states_of c.args.program.now c.args.placed.now) c.as_slice.result.now c.in_ok-rows.rows.items c.in_ok-names.names.procedures.items c.in_ok-names.names.keys.items c.as_slice.ensures.value c.in_ok-rows.ensures.cells
    c.in_ok-names.ensures.procedures c.in_ok-names.ensures.keys

use Rattle.transfer_flow.specs.Successors.{states_of}
use Rattle.access_facts.specs.Rows.{cells_in_rows}
use Rattle.transfer_flow.specs.Contents.{meant}
use Rattle.access_facts.proofs.FlowLemmas.{flow_node_is}
use Rattle.access_facts.proofs.graph.flow_node.Goals as goal

pub returns : goal.returns
returns c =
    let p = c.args.program.now in
    flow_node_is p.image.now p.settings.now (states_of p c.args.placed.now) _ (cells_in_rows c.args.rows.now) (meant c.content_at-content.result) c.in_ok-next.next c.in_ok-sets.sets c.has_some.result c.is_branch.result c.is_end.result
    c.requires.cells c.content_at-content.ensures.value c.in_ok-next.ensures c.in_ok-sets.ensures c.has_some.ensures c.is_branch.ensures c.is_end.ensures

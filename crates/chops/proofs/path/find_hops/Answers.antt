use Rattle.std.proofs.Common.{reverse}
use Rattle.chops.proofs.PairSetLemmas.{arrows_inside}
use Rattle.chops.proofs.WhyLemmas.{held_inside, hops_held, trace_nodes, why_path}
use Rattle.chops.proofs.path.find_hops.Goals as goal

pub count_arrows-requires-clause-inside : goal.count_arrows-requires-clause-inside
count_arrows-requires-clause-inside c =
    held_inside c.as_slice-nodes.result.now c.args.graph.now.flow.nodes c.as_slice.result.now c.in_ok-arrows.arrows.items c.as_slice-nodes.ensures c.as_slice.ensures.value
    (arrows_inside c.args.graph.now.flow.nodes c.args.graph.now.edges.ordinary c.args.graph.now.edges.sp c.in_ok-arrows.arrows.items c.args.skip_sp c.requires c.in_ok-arrows.ensures)

pub shortest-requires-clause-inside : goal.shortest-requires-clause-inside
shortest-requires-clause-inside c =
    held_inside c.as_slice-nodes.result.now c.args.graph.now.flow.nodes c.as_slice-2.result.now c.in_ok-arrows.arrows.items c.as_slice-nodes.ensures c.as_slice-2.ensures.value
    (arrows_inside c.args.graph.now.flow.nodes c.args.graph.now.edges.ordinary c.args.graph.now.edges.sp c.in_ok-arrows.arrows.items c.args.skip_sp c.requires c.in_ok-arrows.ensures)

pub list_hops-requires : goal.list_hops-requires
list_hops-requires c =
    trace_nodes c.as_slice-nodes.result.now c.args.graph.now.flow.nodes c.args.graph.now.edges.ordinary c.args.graph.now.edges.sp c.as_slice-2.result.now c.in_ok-arrows.arrows.items c.args.skip_sp c.args.from c.args.to c.as_slice-4.result.now c.in_ok-trace.trace.items c.requires
    c.as_slice-nodes.ensures c.as_slice-2.ensures.value c.in_ok-arrows.ensures c.as_slice-4.ensures.value c.in_ok-trace.ensures

pub returns : goal.returns
returns c = (
  reverse c.in_ok-trace.trace.items,
  why_path c.as_slice-nodes.result.now c.args.graph.now.flow.nodes c.args.graph.now.edges.ordinary c.args.graph.now.edges.sp c.as_slice-2.result.now c.in_ok-arrows.arrows.items c.args.skip_sp c.args.from c.args.to c.in_ok-trace.trace.items
      c.as_slice-nodes.ensures c.as_slice-2.ensures.value c.in_ok-arrows.ensures c.in_ok-trace.ensures,
  hops_held c.args.graph.now.flow.nodes c.args.graph.now.edges.ordinary c.args.graph.now.edges.sp c.args.skip_sp c.as_slice-4.result.now c.in_ok-trace.trace.items c.in_ok-hops.hops.items c.as_slice-4.ensures.value c.in_ok-hops.ensures,
)

use Rattle.std.proofs.Common.{refl}
use Rattle.slicer.specs.Slicer.{Arrow, ListedEdge}
use Rattle.chops.specs.Chops.{InForward}
use Rattle.chops.proofs.ChopLemmas.{addresses_of, arrow_within, held_inside, met_inside, none_met, some_met}
use Rattle.chops.proofs.slices.forward.Goals as goal

pub list-requires-clause-inside : goal.list-requires-clause-inside
list-requires-clause-inside c =
    held_inside c.as_slice.result.now c.args.graph.now.flow.nodes c.nodes.result.now c.forward.new.queue.nodes c.as_slice.ensures c.nodes.ensures.nodes
    (met_inside c.args.graph.now.flow.nodes (Arrow (ListedEdge c.args.graph.now.edges.ordinary c.args.graph.now.edges.sp c.args.skip_sp) c.args.graph.now.flow.nodes) c.args.at c.forward.new.queue.nodes (arrow_within c.args.graph.now.edges.ordinary c.args.graph.now.edges.sp c.args.skip_sp c.args.graph.now.flow.nodes c.requires.nodes) c.forward.ensures.nodes)

pub returns-then-is_empty-clause-slice : goal.returns-then-is_empty-clause-slice
returns-then-is_empty-clause-slice c =
    addresses_of c.as_slice.result.now c.args.graph.now.flow.nodes c.nodes.result.now c.forward.new.queue.nodes (InForward (ListedEdge c.args.graph.now.edges.ordinary c.args.graph.now.edges.sp c.args.skip_sp) c.args.graph.now.flow.nodes c.args.at) c.list.new.self.addresses c.as_slice.ensures c.nodes.ensures.nodes c.forward.ensures.nodes c.list.ensures.listed

pub returns-then-is_empty-clause-absent : goal.returns-then-is_empty-clause-absent
returns-then-is_empty-clause-absent c = (
  λ _. (none_met c.args.graph.now.flow.nodes (Arrow (ListedEdge c.args.graph.now.edges.ordinary c.args.graph.now.edges.sp c.args.skip_sp) c.args.graph.now.flow.nodes) c.args.at c.forward.new.queue.nodes c.forward.ensures.nodes).0 (c.if-is_empty.ensures.none refl),
  λ _. refl,
)

pub returns-clause-slice : goal.returns-clause-slice
returns-clause-slice c =
    addresses_of c.as_slice.result.now c.args.graph.now.flow.nodes c.nodes.result.now c.forward.new.queue.nodes (InForward (ListedEdge c.args.graph.now.edges.ordinary c.args.graph.now.edges.sp c.args.skip_sp) c.args.graph.now.flow.nodes c.args.at) c.list.new.self.addresses c.as_slice.ensures c.nodes.ensures.nodes c.forward.ensures.nodes c.list.ensures.listed

pub returns-clause-absent : goal.returns-clause-absent
returns-clause-absent c = (
  λ never. absurd (cc),
  λ absent.
      let there = some_met c.args.graph.now.flow.nodes (Arrow (ListedEdge c.args.graph.now.edges.ordinary c.args.graph.now.edges.sp c.args.skip_sp) c.args.graph.now.flow.nodes) c.args.at c.forward.new.queue.nodes c.forward.ensures.nodes (c.if-is_empty.ensures.some (λ never. absurd (cc))) in
      absurd (absent there.0 there.1),
)

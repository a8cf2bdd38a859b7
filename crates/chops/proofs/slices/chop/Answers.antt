use Rattle.std.proofs.Common.{ap, arith, refl}
use Rattle.slicer.specs.Search.{Listed}
use Rattle.slicer.specs.Slicer.{Arrow, ListedEdge}
use Rattle.chops.specs.Chops.{InChop}
use Rattle.chops.proofs.ChopLemmas.{addresses_of, arrow_within, both_inside, chop_like, held_inside, met_inside, none_met, some_met}
use Rattle.chops.proofs.slices.chop.Goals as goal

pub meet-requires : goal.meet-requires
meet-requires c = record {
  inside = λ k d lt.
      let within = (met_inside c.args.graph.now.flow.nodes (Arrow (ListedEdge c.args.graph.now.edges.ordinary c.args.graph.now.edges.sp c.args.skip_sp) c.args.graph.now.flow.nodes) c.args.from c.forward.new.queue.nodes (arrow_within c.args.graph.now.edges.ordinary c.args.graph.now.edges.sp c.args.skip_sp c.args.graph.now.flow.nodes c.requires.nodes) c.forward.ensures.nodes) k d lt in
      let made = c.requires.made in
      let size = ap (λ (l : Listed). l.size) c.s.view_is in
      let room = c.s.invariant.2 in
      omega (arith, within, made, size, room);
}

pub list-requires-clause-inside : goal.list-requires-clause-inside
list-requires-clause-inside c =
    held_inside c.as_slice.result.now c.args.graph.now.flow.nodes c.nodes.result.now c.meet.new.both.nodes c.as_slice.ensures c.nodes.ensures.nodes
    (both_inside c.args.graph.now.flow.nodes c.forward.new.queue.nodes c.back.new.queue.nodes c.meet.new.both.nodes c.meet.ensures.nodes
    (met_inside c.args.graph.now.flow.nodes (Arrow (ListedEdge c.args.graph.now.edges.ordinary c.args.graph.now.edges.sp c.args.skip_sp) c.args.graph.now.flow.nodes) c.args.from c.forward.new.queue.nodes (arrow_within c.args.graph.now.edges.ordinary c.args.graph.now.edges.sp c.args.skip_sp c.args.graph.now.flow.nodes c.requires.nodes) c.forward.ensures.nodes))

pub returns-then-is_empty-clause-chop : goal.returns-then-is_empty-clause-chop
returns-then-is_empty-clause-chop c =
    addresses_of c.as_slice.result.now c.args.graph.now.flow.nodes c.nodes.result.now c.meet.new.both.nodes (InChop (ListedEdge c.args.graph.now.edges.ordinary c.args.graph.now.edges.sp c.args.skip_sp) c.args.graph.now.flow.nodes c.args.from c.args.to) c.list.new.self.addresses c.as_slice.ensures c.nodes.ensures.nodes
    (chop_like (ListedEdge c.args.graph.now.edges.ordinary c.args.graph.now.edges.sp c.args.skip_sp) c.args.graph.now.flow.nodes c.args.from c.args.to c.forward.new.queue.nodes c.back.new.queue.nodes c.meet.new.both.nodes c.forward.ensures.nodes c.back.ensures.nodes c.meet.ensures.nodes) c.list.ensures.listed

pub returns-then-is_empty-clause-absent : goal.returns-then-is_empty-clause-absent
returns-then-is_empty-clause-absent c = λ here. (none_met c.args.graph.now.flow.nodes (Arrow (ListedEdge c.args.graph.now.edges.ordinary c.args.graph.now.edges.sp c.args.skip_sp) c.args.graph.now.flow.nodes) c.args.from c.forward.new.queue.nodes c.forward.ensures.nodes).0 (c.if-is_empty.ensures.none refl) here.0 here.1

pub returns-then-is_empty-2-clause-chop : goal.returns-then-is_empty-2-clause-chop
returns-then-is_empty-2-clause-chop c =
    addresses_of c.as_slice.result.now c.args.graph.now.flow.nodes c.nodes.result.now c.meet.new.both.nodes (InChop (ListedEdge c.args.graph.now.edges.ordinary c.args.graph.now.edges.sp c.args.skip_sp) c.args.graph.now.flow.nodes c.args.from c.args.to) c.list.new.self.addresses c.as_slice.ensures c.nodes.ensures.nodes
    (chop_like (ListedEdge c.args.graph.now.edges.ordinary c.args.graph.now.edges.sp c.args.skip_sp) c.args.graph.now.flow.nodes c.args.from c.args.to c.forward.new.queue.nodes c.back.new.queue.nodes c.meet.new.both.nodes c.forward.ensures.nodes c.back.ensures.nodes c.meet.ensures.nodes) c.list.ensures.listed

pub returns-then-is_empty-2-clause-absent : goal.returns-then-is_empty-2-clause-absent
returns-then-is_empty-2-clause-absent c = (
  some_met c.args.graph.now.flow.nodes (Arrow (ListedEdge c.args.graph.now.edges.ordinary c.args.graph.now.edges.sp c.args.skip_sp) c.args.graph.now.flow.nodes) c.args.from c.forward.new.queue.nodes c.forward.ensures.nodes (c.if-is_empty.ensures.some (λ never. absurd (cc))),
  λ there. (none_met c.args.graph.now.flow.nodes (λ later earlier. Arrow (ListedEdge c.args.graph.now.edges.ordinary c.args.graph.now.edges.sp c.args.skip_sp) c.args.graph.now.flow.nodes earlier later) c.args.to c.back.new.queue.nodes c.back.ensures.nodes).0 (c.if-is_empty-2.ensures.none refl) there.0 there.1,
)

pub returns-clause-chop : goal.returns-clause-chop
returns-clause-chop c =
    addresses_of c.as_slice.result.now c.args.graph.now.flow.nodes c.nodes.result.now c.meet.new.both.nodes (InChop (ListedEdge c.args.graph.now.edges.ordinary c.args.graph.now.edges.sp c.args.skip_sp) c.args.graph.now.flow.nodes c.args.from c.args.to) c.list.new.self.addresses c.as_slice.ensures c.nodes.ensures.nodes
    (chop_like (ListedEdge c.args.graph.now.edges.ordinary c.args.graph.now.edges.sp c.args.skip_sp) c.args.graph.now.flow.nodes c.args.from c.args.to c.forward.new.queue.nodes c.back.new.queue.nodes c.meet.new.both.nodes c.forward.ensures.nodes c.back.ensures.nodes c.meet.ensures.nodes) c.list.ensures.listed

pub returns-clause-absent : goal.returns-clause-absent
returns-clause-absent c = (
  some_met c.args.graph.now.flow.nodes (Arrow (ListedEdge c.args.graph.now.edges.ordinary c.args.graph.now.edges.sp c.args.skip_sp) c.args.graph.now.flow.nodes) c.args.from c.forward.new.queue.nodes c.forward.ensures.nodes (c.if-is_empty.ensures.some (λ never. absurd (cc))),
  some_met c.args.graph.now.flow.nodes (λ later earlier. Arrow (ListedEdge c.args.graph.now.edges.ordinary c.args.graph.now.edges.sp c.args.skip_sp) c.args.graph.now.flow.nodes earlier later) c.args.to c.back.new.queue.nodes c.back.ensures.nodes (c.if-is_empty-2.ensures.some (λ never. absurd (cc))),
)

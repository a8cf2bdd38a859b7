use Rattle.std.proofs.Common.{◌∙◌, refl, sym}
use Rattle.slicer.specs.Slicer.{Arrow, ListedEdge}
use Rattle.slicer.proofs.GrowLemmas.{grows-none}
use Rattle.chops.proofs.ForwardLemmas.{more_passes, passes_end}
use Rattle.chops.proofs.along.follow_on.Goals as goal

pub loop-skip_sp-init : goal.loop-skip_sp-init
loop-skip_sp-init c = record {
  size = refl;
  walks = refl;
  grows = grows-none (Arrow (ListedEdge c.args.graph.now.edges.ordinary c.args.graph.now.edges.sp c.args.skip_sp) c.args.graph.now.flow.nodes) c.args.queue.now.nodes;
}

pub returns-then-len-before-clause-grows : goal.returns-then-len-before-clause-grows
returns-then-len-before-clause-grows c =
    more_passes (ListedEdge c.args.graph.now.edges.ordinary c.args.graph.now.edges.sp c.args.skip_sp) c.args.graph.now.flow.nodes c.args.queue.now.nodes c.loop-skip_sp.queue.nodes c.follow_edges.new.queue.nodes c.follow_control.new.queue.nodes
    c.loop-skip_sp.invariant.grows c.follow_edges.ensures.grows c.follow_control.ensures.grows

pub loop-skip_sp-preserved : goal.loop-skip_sp-preserved
loop-skip_sp-preserved c = record {
  size = c.follow_control.ensures.size ∙ c.follow_edges.ensures.size ∙ c.loop-skip_sp.invariant.size;
  walks = c.follow_control.ensures.walks ∙ c.loop-skip_sp.invariant.walks;
  grows = more_passes (ListedEdge c.args.graph.now.edges.ordinary c.args.graph.now.edges.sp c.args.skip_sp) c.args.graph.now.flow.nodes c.args.queue.now.nodes c.loop-skip_sp.queue.nodes c.follow_edges.new.queue.nodes c.follow_control.new.queue.nodes
      c.loop-skip_sp.invariant.grows c.follow_edges.ensures.grows c.follow_control.ensures.grows;
}

pub returns-then-len-before-clause-closed : goal.returns-then-len-before-clause-closed
returns-then-len-before-clause-closed c =
    passes_end (ListedEdge c.args.graph.now.edges.ordinary c.args.graph.now.edges.sp c.args.skip_sp) c.args.graph.now.flow.nodes c.args.nodes.now c.loop-skip_sp.queue.nodes c.follow_edges.new.queue.nodes c.follow_control.new.queue.nodes
    c.requires.all c.follow_edges.ensures.grows c.follow_control.ensures.grows c.follow_edges.ensures.follows c.follow_control.ensures.follows (sym c.len.ensures.nodes ∙ c.if-len-before.true ∙ c.len-before.ensures.nodes)

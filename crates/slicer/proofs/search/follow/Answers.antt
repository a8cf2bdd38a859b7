use Rattle.std.proofs.Common.{◌∙◌, refl, sym, subst}
use Rattle.slicer.specs.Slicer.{ListedEdge}
use Rattle.slicer.proofs.FollowLemmas.{Following, following-none, following-more, following-closed, following-inside}
use Rattle.slicer.proofs.search.follow.Goals as goal

pub loop-done-init : goal.loop-done-init
loop-done-init c = record {
  size = refl;
  walks = refl;
  following = following-none (ListedEdge c.args.graph.now.edges.ordinary c.args.graph.now.edges.sp c.args.skip_sp) c.args.graph.now.flow.nodes c.args.queue.now.nodes;
}

pub follow_control-requires-clause-inside : goal.follow_control-requires-clause-inside
follow_control-requires-clause-inside c =
    following-inside c.args.graph.now.edges.ordinary c.args.graph.now.edges.sp c.args.skip_sp c.args.graph.now.flow.nodes c.args.queue.now.nodes c.loop-done.queue.nodes
    c.requires.nodes c.requires.inside c.loop-done.invariant.following.grows

pub returns-then-len-done-clause-grows : goal.returns-then-len-done-clause-grows
returns-then-len-done-clause-grows c =
    (following-more (ListedEdge c.args.graph.now.edges.ordinary c.args.graph.now.edges.sp c.args.skip_sp) c.args.graph.now.flow.nodes c.args.queue.now.nodes c.loop-done.queue.nodes
    c.follow_control.new.queue.nodes c.follow_edges.new.queue.nodes c.loop-done.done
    c.loop-done.invariant.following c.follow_control.ensures.grows c.follow_control.ensures.controlled c.follow_edges.ensures.grows).grows

pub returns-then-len-done-clause-closed : goal.returns-then-len-done-clause-closed
returns-then-len-done-clause-closed c =
    following-closed (ListedEdge c.args.graph.now.edges.ordinary c.args.graph.now.edges.sp c.args.skip_sp) c.args.graph.now.flow.nodes c.follow_control.new.queue.nodes c.follow_edges.new.queue.nodes
    c.follow_control.ensures.controlled c.follow_edges.ensures.grows c.follow_edges.ensures.follows
    (sym c.len.ensures.nodes ∙ c.if-len-done.true ∙ c.len-done.ensures.nodes)

pub loop-done-preserved : goal.loop-done-preserved
loop-done-preserved c = record {
  size = c.follow_edges.ensures.size ∙ c.follow_control.ensures.size ∙ c.loop-done.invariant.size;
  walks = c.follow_control.ensures.walks ∙ c.loop-done.invariant.walks;
  following = subst (λ done. Following (ListedEdge c.args.graph.now.edges.ordinary c.args.graph.now.edges.sp c.args.skip_sp) c.args.graph.now.flow.nodes c.args.queue.now.nodes c.follow_edges.new.queue.nodes done) (sym c.len-done.ensures.nodes)
      (following-more (ListedEdge c.args.graph.now.edges.ordinary c.args.graph.now.edges.sp c.args.skip_sp) c.args.graph.now.flow.nodes c.args.queue.now.nodes c.loop-done.queue.nodes
      c.follow_control.new.queue.nodes c.follow_edges.new.queue.nodes c.loop-done.done
      c.loop-done.invariant.following c.follow_control.ensures.grows c.follow_control.ensures.controlled c.follow_edges.ensures.grows);
}

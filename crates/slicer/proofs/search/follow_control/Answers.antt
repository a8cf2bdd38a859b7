use Rattle.std.proofs.Common.{◌∙◌, refl, arith}
use Rattle.slicer.proofs.GrowLemmas.{grows-none}
use Rattle.slicer.proofs.FollowLemmas.{IsControl, control-inside, controlling-more}
use Rattle.slicer.proofs.search.follow_control.Goals as goal

pub loop-done-init : goal.loop-done-init
loop-done-init c = record {
  size = refl;
  walks = refl;
  controlling = record { grows = grows-none (IsControl c.args.graph.now.nodes) c.args.queue.now.nodes; controlled = c.requires.controlled; within = c.requires.within };
}

pub follow_some-done-requires-clause-inside : goal.follow_some-done-requires-clause-inside
follow_some-done-requires-clause-inside c =
    control-inside c.args.graph.now.nodes c.args.queue.now.nodes c.loop-done.queue.nodes c.requires.inside c.loop-done.invariant.controlling.grows

pub loop-done-preserved : goal.loop-done-preserved
loop-done-preserved c = record {
  size = c.follow_some-done.ensures.size ∙ c.loop-done.invariant.size;
  walks = c.follow_some-done.ensures.walks ∙ c.loop-done.invariant.walks;
  controlling = controlling-more c.args.graph.now.nodes c.args.queue.now.nodes c.loop-done.queue.nodes c.follow_some-done.new.queue.nodes c.loop-done.done c.follow_some-done.result
      c.loop-done.invariant.controlling c.follow_some-done.ensures.grows c.follow_some-done.ensures.follows c.follow_some-done.ensures.within;
}

pub returns-clause-controlled : goal.returns-clause-controlled
returns-clause-controlled c = λ k below. c.loop-done.invariant.controlling.controlled k (omega (arith, below))

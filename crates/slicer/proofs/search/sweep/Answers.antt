use Rattle.std.proofs.Common.{◌∙◌, refl}
use Rattle.slicer.specs.Search.{IsBefore}
use Rattle.slicer.proofs.GrowLemmas.{grows-none, grows-then, grows-has}
use Rattle.slicer.proofs.FollowLemmas.{sweeping-none, sweeping-more, sweeping-all}
use Rattle.slicer.proofs.search.sweep.Goals as goal

pub loop-place-init : goal.loop-place-init
loop-place-init c = record { size = refl; sweeping = sweeping-none c.args.pairs.now c.sweep_back.new.queue.nodes c.sweep_back.new.queue.nodes (grows-none (IsBefore c.args.pairs.now) c.sweep_back.new.queue.nodes) }

pub loop-place-preserved : goal.loop-place-preserved
loop-place-preserved c = record {
  size = c.follow_edge.ensures.size ∙ c.loop-place.invariant.size;
  sweeping = sweeping-more c.args.pairs.now c.loop-place.place c.sweep_back.new.queue.nodes c.loop-place.queue.nodes c.follow_edge.new.queue.nodes
      c.loop-place.invariant.sweeping c.follow_edge.ensures.grows c.follow_edge.ensures.follows;
}

pub returns-clause-grows : goal.returns-clause-grows
returns-clause-grows c =
    grows-then (IsBefore c.args.pairs.now) c.args.queue.now.nodes c.sweep_back.new.queue.nodes c.loop-place.queue.nodes c.sweep_back.ensures.grows c.loop-place.invariant.sweeping.grows

pub returns-clause-follows : goal.returns-clause-follows
returns-clause-follows c = λ n m edge has.
    sweeping-all c.args.pairs.now c.loop-place.place c.sweep_back.new.queue.nodes c.loop-place.queue.nodes c.loop-place-test.false c.loop-place.invariant.sweeping n m edge
    (grows-has (IsBefore c.args.pairs.now) c.args.queue.now.nodes c.sweep_back.new.queue.nodes n c.sweep_back.ensures.grows has)

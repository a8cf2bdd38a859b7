use Rattle.std.proofs.Common.{◌∙◌, refl}
use Rattle.chops.proofs.AlongLemmas.{sweep_all, sweep_more, sweep_none}
use Rattle.chops.proofs.search.sweep.Goals as goal

pub loop-place-init : goal.loop-place-init
loop-place-init c = record { size = refl; sweeping = sweep_none c.args.pairs.now c.args.queue.now.nodes }

pub loop-place-preserved : goal.loop-place-preserved
loop-place-preserved c = record {
  size = c.follow_edge.ensures.size ∙ c.loop-place.invariant.size;
  sweeping = sweep_more c.args.pairs.now c.loop-place.place c.args.queue.now.nodes c.loop-place.queue.nodes c.follow_edge.new.queue.nodes
      c.loop-place.invariant.sweeping c.follow_edge.ensures.grows c.follow_edge.ensures.follows;
}

pub returns-clause-grows : goal.returns-clause-grows
returns-clause-grows c = c.loop-place.invariant.sweeping.grows

pub returns-clause-follows : goal.returns-clause-follows
returns-clause-follows c = sweep_all c.args.pairs.now c.loop-place.place c.args.queue.now.nodes c.loop-place.queue.nodes c.loop-place-test.false c.loop-place.invariant.sweeping

use Rattle.std.proofs.Common.{◌≡◌, ◌∙◌, refl, arith, length}
use Rattle.std.proofs.lemmas.Grind.{common_steps}
use Rattle.control_walks.specs.ControlWalks.{Controls}
use Rattle.slicer.proofs.GrowLemmas.{grows-none, grows-then}
use Rattle.dep_graph.proofs.SpreadLemmas.{inside-part}
use Rattle.chops.proofs.AlongLemmas.{all_begin, all_end, all_more, inside_some}
use Rattle.chops.proofs.search.follow_control.Goals as goal

pub loop-rest-init : goal.loop-rest-init
loop-rest-init c = record {
  size = refl;
  walks = refl;
  inside = c.requires.inside;
  grows = grows-none (Controls c.args.graph.now.nodes) c.args.queue.now.nodes;
  comes = all_begin c.args.graph.now.nodes c.args.nodes.now c.args.queue.now.nodes;
}

pub follow_some-requires-clause-inside : goal.follow_some-requires-clause-inside
follow_some-requires-clause-inside c = inside_some c.args.graph.now.nodes c.loop-rest.rest.now c.split_at.result.0.now c.min.result c.split_at.ensures.front c.loop-rest.invariant.inside

pub loop-rest-preserved : goal.loop-rest-preserved
loop-rest-preserved c = record {
  size = c.follow_some.ensures.size ∙ c.loop-rest.invariant.size;
  walks = c.follow_some.ensures.walks ∙ c.loop-rest.invariant.walks;
  inside = inside-part c.args.graph.now.nodes c.loop-rest.rest.now c.split_at.result.1.now c.min.result c.split_at.ensures.back c.loop-rest.invariant.inside;
  grows = grows-then (Controls c.args.graph.now.nodes) c.args.queue.now.nodes c.loop-rest.queue.nodes c.follow_some.new.queue.nodes c.loop-rest.invariant.grows c.follow_some.ensures.grows;
  comes = all_more c.args.graph.now.nodes c.args.nodes.now c.loop-rest.rest.now c.split_at.result.0.now c.split_at.result.1.now c.args.queue.now.nodes c.loop-rest.queue.nodes c.follow_some.new.queue.nodes c.min.result
      c.split_at.ensures.front c.split_at.ensures.back c.loop-rest.invariant.grows c.follow_some.ensures.grows c.loop-rest.invariant.comes c.follow_some.ensures.follows;
}

pub returns-clause-follows : goal.returns-clause-follows
returns-clause-follows c =
    let none : length c.loop-rest.rest.now ≡ 0 = grind (arith, common_steps) in
    all_end c.args.graph.now.nodes c.args.nodes.now c.loop-rest.rest.now c.args.queue.now.nodes c.loop-rest.queue.nodes none c.loop-rest.invariant.comes

use Rattle.dep_graph.proofs.SpreadLemmas.{later-part, inside-part}
use Rattle.dep_graph.proofs.spread.add_parts.Goals as goal

pub loop-rest-preserved : goal.loop-rest-preserved
loop-rest-preserved c = record {
  inside = inside-part c.args.ground.now.nodes.now c.loop-rest.rest.now c.split_at.result.1.now c.min.result c.split_at.ensures.back c.loop-rest.invariant.inside;
  square = c.add_chunk.ensures.square;
  later = λ final after. c.loop-rest.invariant.later final
      (later-part c.args.ground.now.nodes.now c.args.ground.now.place c.loop-rest.rest.now c.split_at.result.0.now c.split_at.result.1.now c.min.result c.loop-rest.pairs c.add_chunk.new.pairs final
      c.split_at.ensures.front c.split_at.ensures.back c.add_chunk.ensures.adds after);
}

use Rattle.std.proofs.Common.{◌∙◌}
use Rattle.dep_graph.proofs.SpreadLemmas.{inside-part}
use Rattle.matched_calls.proofs.SearchLemmas.{from_later}
use Rattle.matched_calls.proofs.search.add_walks.Goals as goal

pub loop-rest-preserved : goal.loop-rest-preserved
loop-rest-preserved c = record {
  len = c.add_chunk.ensures.len ∙ c.loop-rest.invariant.len;
  inside = inside-part c.args.search.now.ground.nodes.now c.loop-rest.rest.now c.split_at.result.1.now c.min.result c.split_at.ensures.back c.loop-rest.invariant.inside;
  square = c.add_chunk.ensures.square;
  later = λ final after. c.loop-rest.invariant.later final
      (from_later c.args.search.now.ground.nodes.now c.args.search.now.ground.kinds.now c.args.search.now.kept.now c.args.search.now.sources.now c.loop-rest.rest.now c.split_at.result.0.now c.split_at.result.1.now c.min.result c.loop-rest.pairs c.add_chunk.new.pairs final
      c.split_at.ensures.front c.split_at.ensures.back c.add_chunk.ensures.adds after);
}

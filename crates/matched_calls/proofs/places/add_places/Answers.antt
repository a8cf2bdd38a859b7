use Rattle.matched_calls.proofs.PlaceLemmas.{by_later}
use Rattle.matched_calls.proofs.places.add_places.Goals as goal

pub loop-rest-preserved : goal.loop-rest-preserved
loop-rest-preserved c = record {
  square = c.in_ok-add_some.ensures.square;
  later = λ final after. c.loop-rest.invariant.later final
      (by_later c.args.ground.now.nodes.now c.args.ground.now.kinds.now c.loop-rest.rest.now c.split_at.result.0.now c.split_at.result.1.now c.min.result c.loop-rest.pairs c.add_some.new.pairs final c.split_at.ensures.front c.split_at.ensures.back c.in_ok-add_some.ensures.adds after);
}

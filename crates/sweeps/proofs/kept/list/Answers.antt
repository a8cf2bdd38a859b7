use Rattle.std.proofs.Common.{◌∙◌, ap, map, sym}
use Rattle.std.proofs.lemmas.Iterator.Adapters.{YieldsList-from_vec}
use Rattle.std.proofs.lemmas.Iterator.Consumers.{YieldsList-end}
use Rattle.std.proofs.lemmas.List.{map-id}
use Rattle.sweeps.specs.Kept.{unaimed}
use Rattle.sweeps.proofs.kept.list.Goals as goal

pub returns : goal.returns
returns g c =
    let gives = c.into_iter-pair-iterator.ensures.into_iter_gives in
    let end = YieldsList-end (YieldsList-from_vec {s = c.into_iter-pair-iterator.result} c.args.pairs.items gives.0 (gives.1 ∙ c.args.pairs.ok.0)) c.loop-pair.yielded c.loop-pair.pair-iterator c.loop-pair.yielded_by c.next.result c.next.new.self c.in-None.is c.next.ensures.steps in
    c.from_vec.ensures ∙ c.loop-pair.invariant ∙ ap (map unaimed) (sym (map-id c.loop-pair.yielded) ∙ end.0)

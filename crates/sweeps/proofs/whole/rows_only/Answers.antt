use Rattle.std.proofs.Common.{◌∙◌, ap, sym}
use Rattle.std.proofs.lemmas.Iterator.Adapters.{YieldsList-from_vec}
use Rattle.std.proofs.lemmas.Iterator.Consumers.{YieldsList-end}
use Rattle.std.proofs.lemmas.List.{map-id}
use Rattle.sweeps.specs.Kept.{rows_of}
use Rattle.sweeps.proofs.whole.rows_only.Goals as goal

pub returns : goal.returns
returns g c =
    let gives = c.into_iter-k-iterator.ensures.into_iter_gives in
    let end = YieldsList-end (YieldsList-from_vec {s = c.into_iter-k-iterator.result} c.args.kept.items gives.0 (gives.1 ∙ c.args.kept.ok.0)) c.loop-k.yielded c.loop-k.k-iterator c.loop-k.yielded_by c.next.result c.next.new.self c.in-None.is c.next.ensures.steps in
    c.loop-k.invariant ∙ ap rows_of (sym (map-id c.loop-k.yielded) ∙ end.0)

use Rattle.std.proofs.Common.{◌++◌, ◌∷◌, [], ◌∙◌, ap, sym}
use Rattle.std.proofs.lemmas.Iterator.Adapters.{YieldsList-from_vec}
use Rattle.std.proofs.lemmas.Iterator.Consumers.{YieldsList-end}
use Rattle.std.proofs.lemmas.List.{map-id}
use Rattle.transfer_flow.specs.Successors.{all_placed}
use Rattle.vsa.specs.Views.{tables_of}
use Rattle.vsa.proofs.LentLemmas.{tables_more}
use Rattle.vsa.proofs.domain.tables.Goals as goal

pub loop-placed-preserved : goal.loop-placed-preserved
loop-placed-preserved c =
    let placed = c.in-Some.placed in
    c.in_ok-push.ensures.items ∙ (λ i. c.loop-placed.invariant i ++ (placed.0, c.new.ensures.table i) ∷ []) ∙ sym (tables_more c.loop-placed.yielded placed)

pub returns : goal.returns
returns c =
    let gives = c.into_iter-placed-iterator.ensures.into_iter_gives in
    let end = YieldsList-end (YieldsList-from_vec {s = c.into_iter-placed-iterator.result} c.args.all.items gives.0 (gives.1 ∙ c.args.all.ok.0)) c.loop-placed.yielded c.loop-placed.placed-iterator c.loop-placed.yielded_by c.next.result c.next.new.self c.in-None.is c.next.ensures.steps in
    c.loop-placed.invariant ∙ ap (λ xs. tables_of (all_placed xs)) (sym (map-id c.loop-placed.yielded) ∙ end.0)

use Rattle.std.proofs.Common.{◌++◌, ◌∷◌, [], map, ap, ◌∙◌}
use Rattle.std.proofs.lemmas.List.{map-append}
use Rattle.call_states.proofs.LoopLemmas.{map_step, map_end}
use Rattle.transfer_flow.specs.Successors.{placed_of}
use Rattle.abs_steps.specs.Successors.{at_node}
use Rattle.vsa.proofs.LentLemmas.{placed_at, lent_placed}
use Rattle.vsa.proofs.domain.states.Goals as goal

pub loop-other-preserved : goal.loop-other-preserved
loop-other-preserved c =
    let out = c.loop-other.out.items in
    let other = c.other-item.result in
    map_step placed_at c.args.others.now c.loop-other.other-index other (map placed_of out) _ _ c.loop-other-test.true c.other-item.is
    (ap (map placed_of) c.in_ok-push.ensures.items ∙ map-append placed_of out ((other.0, c.state.result) ∷ []) ∙ (λ k. map placed_of out ++ at_node other.0.now (c.state.ensures.state k) ∷ []))
    c.loop-other.invariant

pub returns : goal.returns
returns c = map_end placed_at c.args.others.now c.loop-other.other-index (map placed_of c.loop-other.out.items) _ c.loop-other-test.false c.loop-other.invariant ∙ lent_placed c.args.others.now

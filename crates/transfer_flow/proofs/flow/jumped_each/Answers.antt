use Rattle.std.proofs.Common.{◌++◌, ◌∷◌, [], ◌∙◌, ap}
use Rattle.std.proofs.lemmas.List.{map-append}
use Rattle.abs_state.specs.Views.{seen}
use Rattle.abs_steps.specs.Successors.{at_node, moved_to}
use Rattle.transfer_flow.specs.Successors.{placed_by, all_placed}
use Rattle.call_states.proofs.LoopLemmas.{map_step, map_end}
use Rattle.transfer_flow.proofs.flow.jumped_each.Goals as goal

pub loop-at-preserved : goal.loop-at-preserved
loop-at-preserved c =
    let out = c.loop-at.out.items in
    map_step (λ t. at_node (moved_to t c.args.site.now.node.now) (seen c.args.site.now.state.now)) c.args.targets.now c.loop-at.at c.number_at-target.result (all_placed out) _ _ c.loop-at-test.true c.number_at-target.ensures
    (ap all_placed c.in_ok-push.ensures.items ∙ map-append placed_by out ((c.in_ok-node.node, c.in_ok-state.state) ∷ []) ∙ (λ k. all_placed out ++ at_node (c.in_ok-node.ensures k) (seen (c.in_ok-state.ensures.cases k)) ∷ []))
    c.loop-at.invariant

pub returns : goal.returns
returns c =
    map_end (λ t. at_node (moved_to t c.args.site.now.node.now) (seen c.args.site.now.state.now)) c.args.targets.now c.loop-at.at (all_placed c.loop-at.out.items) _ c.loop-at-test.false c.loop-at.invariant

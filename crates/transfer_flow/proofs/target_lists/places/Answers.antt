use Rattle.std.proofs.Common.{◌∷◌, [], cond, ◌∙◌}
use Rattle.abs_steps.specs.Places.{is_place}
use Rattle.call_states.proofs.LoopLemmas.{flat_step, flat_end, filter_flat}
use Rattle.transfer_flow.proofs.target_lists.places.Goals as goal

pub loop-at-preserved : goal.loop-at-preserved
loop-at-preserved c =
    flat_step (λ t. cond (is_place c.args.image.now t) (t ∷ []) []) c.args.targets.now c.loop-at.at c.number_at-target.result c.loop-at.out.items _ _ c.loop-at-test.true c.number_at-target.ensures c.in_ok-put_place.ensures c.loop-at.invariant

pub returns : goal.returns
returns c =
    flat_end (λ t. cond (is_place c.args.image.now t) (t ∷ []) []) c.args.targets.now c.loop-at.at c.loop-at.out.items _ c.loop-at-test.false c.loop-at.invariant
    ∙ filter_flat (is_place c.args.image.now) c.args.targets.now

use Rattle.std.proofs.Common.{◌++◌, ◌∷◌, [], ◌∙◌, ap}
use Rattle.call_states.specs.Values.{renamed}
use Rattle.call_states.proofs.LoopLemmas.{map_step, map_end}
use Rattle.call_states.proofs.values.renamed_registers.Goals as goal

pub loop-value-preserved : goal.loop-value-preserved
loop-value-preserved c =
    map_step (renamed c.args.renaming.now) c.args.values.now c.loop-value.value-index c.value-item.result c.loop-value.out.items _ _ c.loop-value-test.true c.value-item.is
    (c.in_ok-push.ensures.items ∙ ap (λ v. c.loop-value.out.items ++ v ∷ []) c.in_ok-value.ensures) c.loop-value.invariant

pub returns : goal.returns
returns c = map_end (renamed c.args.renaming.now) c.args.values.now c.loop-value.value-index c.loop-value.out.items _ c.loop-value-test.false c.loop-value.invariant

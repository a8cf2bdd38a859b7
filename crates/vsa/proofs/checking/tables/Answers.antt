use Rattle.std.proofs.Common.{◌++◌, ◌∷◌, [], map, ap, ◌∙◌}
use Rattle.std.proofs.lemmas.List.{map-append}
use Rattle.call_states.proofs.LoopLemmas.{map_step, map_end}
use Rattle.abs_state.specs.Views.{seen}
use Rattle.vsa.specs.Tables.{state_of}
use Rattle.vsa.proofs.checking.tables.Goals as goal

pub loop-value-preserved : goal.loop-value-preserved
loop-value-preserved c =
    let out = c.loop-value.out.items in
    map_step seen c.args.values.now c.loop-value.value-index c.value-item.result (map state_of out) _ _ c.loop-value-test.true c.value-item.is
    (ap (map state_of) c.in_ok-push.ensures.items ∙ map-append state_of out (c.in_ok-made.made ∷ []) ∙ (λ k. map state_of out ++ c.in_ok-made.ensures k ∷ []))
    c.loop-value.invariant

pub returns : goal.returns
returns c = map_end seen c.args.values.now c.loop-value.value-index (map state_of c.loop-value.out.items) _ c.loop-value-test.false c.loop-value.invariant

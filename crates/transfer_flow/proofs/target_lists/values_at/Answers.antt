use Rattle.std.proofs.Common.{◌++◌, ◌∷◌, [], ◌∙◌, ap}
use Rattle.abs_semantics.specs.States.{value_at}
use Rattle.abs_state.specs.Views.{seen}
use Rattle.call_states.proofs.LoopLemmas.{map_step, map_end}
use Rattle.transfer_flow.proofs.target_lists.values_at.Goals as goal

pub loop-at-preserved : goal.loop-at-preserved
loop-at-preserved c =
    map_step (value_at (seen c.args.a.now)) c.args.cells.now c.loop-at.at c.cell_at-cell.result c.loop-at.out.items _ _ c.loop-at-test.true c.cell_at-cell.ensures
    (c.in_ok-push.ensures.items ∙ ap (λ v. c.loop-at.out.items ++ v ∷ []) c.in_ok-value.ensures) c.loop-at.invariant

pub returns : goal.returns
returns c = map_end (value_at (seen c.args.a.now)) c.args.cells.now c.loop-at.at c.loop-at.out.items _ c.loop-at-test.false c.loop-at.invariant

use Rattle.std.proofs.Common.{◌++◌, sym, ◌∙◌, ap}
use Rattle.abs_state.specs.Views.{seen}
use Rattle.transfer_flow.specs.Successors.{all_placed, caller_by, behind}
use Rattle.call_states.proofs.LoopLemmas.{flat_step, flat_end, flat_map_map}
use Rattle.transfer_flow.proofs.returning.put_all_behind.Goals as goal

pub loop-caller-preserved : goal.loop-caller-preserved
loop-caller-preserved c =
    flat_step (λ k. behind c.args.parent (seen c.args.state.now) (caller_by k)) c.args.callers.now c.loop-caller.caller-index c.caller-item.result (all_placed c.loop-caller.out.items) _ _ c.loop-caller-test.true c.caller-item.is c.in_ok-put_behind.ensures c.loop-caller.invariant

pub returns : goal.returns
returns c =
    let g = behind c.args.parent (seen c.args.state.now) in
    flat_end (λ k. g (caller_by k)) c.args.callers.now c.loop-caller.caller-index (all_placed c.loop-caller.out.items) _ c.loop-caller-test.false c.loop-caller.invariant
    ∙ ap (λ t. all_placed c.args.out.now.items ++ t) (sym (flat_map_map g caller_by c.args.callers.now))

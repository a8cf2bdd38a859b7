use Rattle.std.proofs.Common.{ℕ, ◌++◌, ◌∷◌, [], ◌∙◌, ap}
use Rattle.std.proofs.lemmas.List.{map-append}
use Rattle.ia32_semantics.specs.Rows.{next_place}
use Rattle.abs_state.specs.Views.{seen}
use Rattle.abs_steps.specs.Calls.{called}
use Rattle.abs_steps.specs.Successors.{Placed, at_node, callee_node, slot_below}
use Rattle.transfer_flow.specs.Successors.{placed_by, all_placed}
use Rattle.call_states.proofs.LoopLemmas.{map_step, map_end}
use Rattle.transfer_flow.proofs.flow.called_each.Goals as goal

pub loop-at-preserved : goal.loop-at-preserved
loop-at-preserved c =
    let s = c.args.site.now in
    let p = s.program.now in
    let n = s.node.now in
    let i = c.args.entering.now.i.now in
    let out = c.loop-at.out.items in
    let t = c.number_at-target.result in
    let g : ℕ → Placed = λ x. at_node (callee_node p.lane i.at x n) (called p.cells.now n.context.proc (slot_below c.args.entering.now.offset) x (next_place i) (seen s.state.now)) in
    let state = c.in_ok-state.ensures ∙ (λ k. called p.cells.now (c.call_to-call.ensures.procedures.0 k) (c.call_to-call.ensures.offset k) (c.call_to-call.ensures.procedures.1 k) (c.call_to-call.ensures.next k) (seen s.state.now)) in
    map_step g c.args.targets.now c.loop-at.at t (all_placed out) _ _ c.loop-at-test.true c.number_at-target.ensures
    (ap all_placed c.in_ok-push.ensures.items ∙ map-append placed_by out ((c.in_ok-callee.callee, c.in_ok-state.state) ∷ []) ∙ (λ k. all_placed out ++ at_node (c.in_ok-callee.ensures k) (state k) ∷ []))
    c.loop-at.invariant

pub returns : goal.returns
returns c =
    let s = c.args.site.now in
    let p = s.program.now in
    let n = s.node.now in
    let i = c.args.entering.now.i.now in
    let g : ℕ → Placed = λ x. at_node (callee_node p.lane i.at x n) (called p.cells.now n.context.proc (slot_below c.args.entering.now.offset) x (next_place i) (seen s.state.now)) in
    map_end g c.args.targets.now c.loop-at.at (all_placed c.loop-at.out.items) _ c.loop-at-test.false c.loop-at.invariant

use Rattle.std.proofs.Common.{◌∙◌, sym}
use Rattle.std.specs.Borrow.{Bor}
use Rattle.call_strings.specs.declared.context.Node.{Node}
use Rattle.call_strings.specs.Nodes.{same_node}
use Rattle.abs_state.specs.declared.state.AbsState.{AbsState}
use Rattle.abs_steps.specs.Successors.{Placed}
use Rattle.transfer_flow.specs.Successors.{all_placed, placed_of, placed_by}
use Rattle.transfer_flow.proofs.WarningLemmas.{any_map}
use Rattle.access_facts.specs.Next.{has_node}
use Rattle.access_facts.specs.Places.{picked}
use Rattle.access_facts.proofs.PickLemmas.{pick_step, pick_end, picked_map}
use Rattle.access_facts.proofs.next.target_numbers.Goals as goal

pub loop-other-preserved : goal.loop-other-preserved
loop-other-preserved c =
    let test = λ (o : Bor Node × Bor AbsState). has_node (all_placed c.args.targets.now) (placed_of o).node in
    pick_step test c.loop-other.number c.in_ok-number.number c.args.placed.now c.loop-other.other-index c.other-item.result c.has_node.result c.loop-other.numbers.items c.push_if.new.places.items
    (picked test 0 c.args.placed.now) c.loop-other-test.true c.other-item.is
    (c.has_node.ensures ∙ sym (any_map (λ (p : Placed). same_node p.node c.other-item.result.0.now) placed_by c.args.targets.now)) c.in_ok-push_if.ensures c.in_ok-number.ensures c.loop-other.invariant

pub returns : goal.returns
returns c =
    let test = λ (o : Bor Node × Bor AbsState). has_node (all_placed c.args.targets.now) (placed_of o).node in
    c.from_vec.ensures
    ∙ pick_end test c.loop-other.number c.args.placed.now c.loop-other.other-index c.loop-other.numbers.items (picked test 0 c.args.placed.now) c.loop-other-test.false c.loop-other.invariant
    ∙ picked_map (λ (p : Placed). has_node (all_placed c.args.targets.now) p.node) placed_of 0 c.args.placed.now

use Rattle.std.proofs.Common.{◌∙◌}
use Rattle.std.specs.Borrow.{Bor}
use Rattle.call_strings.specs.Nodes.{same_node}
use Rattle.call_strings.specs.declared.context.Node.{Node}
use Rattle.abs_state.specs.declared.state.AbsState.{AbsState}
use Rattle.abs_steps.specs.Successors.{Placed}
use Rattle.transfer_flow.specs.Successors.{placed_of}
use Rattle.access_facts.specs.Places.{picked}
use Rattle.access_facts.proofs.PickLemmas.{pick_step, pick_end, picked_map}
use Rattle.access_facts.proofs.next.numbers_of.Goals as goal

pub loop-other-preserved : goal.loop-other-preserved
loop-other-preserved c =
    let test = λ (o : Bor Node × Bor AbsState). same_node c.args.node.now (placed_of o).node in
    pick_step test c.loop-other.number c.in_ok-number.number c.args.placed.now c.loop-other.other-index c.other-item.result c.is_node.result c.loop-other.numbers.items c.push_if.new.places.items (picked test 0 c.args.placed.now) c.loop-other-test.true
    c.other-item.is c.is_node.ensures c.in_ok-push_if.ensures c.in_ok-number.ensures c.loop-other.invariant

pub returns : goal.returns
returns c =
    let test = λ (o : Bor Node × Bor AbsState). same_node c.args.node.now (placed_of o).node in
    c.from_vec.ensures
    ∙ pick_end test c.loop-other.number c.args.placed.now c.loop-other.other-index c.loop-other.numbers.items (picked test 0 c.args.placed.now) c.loop-other-test.false c.loop-other.invariant
    ∙ picked_map (λ (p : Placed). same_node c.args.node.now p.node) placed_of 0 c.args.placed.now

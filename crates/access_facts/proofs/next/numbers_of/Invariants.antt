use Rattle.std.specs.Borrow.{Bor}
use Rattle.call_strings.specs.Nodes.{same_node}
use Rattle.call_strings.specs.declared.context.Node.{Node}
use Rattle.abs_state.specs.declared.state.AbsState.{AbsState}
use Rattle.transfer_flow.specs.Successors.{placed_of}
use Rattle.access_facts.specs.Places.{picked}
use Rattle.access_facts.proofs.PickLemmas.{IsPicked}
use Rattle.access_facts.proofs.next.numbers_of.Given as goal

abbrev pub invariant-loop-other : goal.invariant-loop-other
invariant-loop-other l =
    IsPicked (λ (o : Bor Node × Bor AbsState). same_node l.node (placed_of o).node) l.number l.placed l.other-index l.numbers.items
    (picked (λ (o : Bor Node × Bor AbsState). same_node l.node (placed_of o).node) 0 l.placed)

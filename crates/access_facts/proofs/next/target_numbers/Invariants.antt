use Rattle.std.specs.Borrow.{Bor}
use Rattle.call_strings.specs.declared.context.Node.{Node}
use Rattle.abs_state.specs.declared.state.AbsState.{AbsState}
use Rattle.transfer_flow.specs.Successors.{all_placed, placed_of}
use Rattle.access_facts.specs.Next.{has_node}
use Rattle.access_facts.proofs.PickLemmas.{IsPicked}
use Rattle.access_facts.specs.Places.{picked}
use Rattle.access_facts.proofs.next.target_numbers.Given as goal

abbrev pub invariant-loop-other : goal.invariant-loop-other
invariant-loop-other l =
    IsPicked (λ (o : Bor Node × Bor AbsState). has_node (all_placed l.targets) (placed_of o).node) l.number l.placed l.other-index l.numbers.items
    (picked (λ (o : Bor Node × Bor AbsState). has_node (all_placed l.targets) (placed_of o).node) 0 l.placed)

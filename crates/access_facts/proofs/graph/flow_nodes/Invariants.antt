use Rattle.std.proofs.Common.{◌≡◌, ◌++◌, drop}
use Rattle.std.specs.Prelude.{map}
use Rattle.std.specs.Borrow.{Bor}
use Rattle.call_strings.specs.declared.context.Node.{Node}
use Rattle.abs_state.specs.declared.state.AbsState.{AbsState}
use Rattle.transfer_flow.specs.Successors.{placed_of, states_of}
use Rattle.access_facts.specs.Flow.{flow_node}
use Rattle.access_facts.proofs.graph.flow_nodes.Given as goal

abbrev pub invariant-loop-other : goal.invariant-loop-other
invariant-loop-other l =
    let f = λ (o : Bor Node × Bor AbsState). flow_node l.program.image.now l.program.settings.now (states_of l.program l.placed) (placed_of o) in
    l.nodes.items ++ map f (drop l.other-index l.placed) ≡ map f l.placed

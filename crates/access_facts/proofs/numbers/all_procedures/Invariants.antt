use Rattle.std.proofs.Common.{◌≡◌, ◌++◌, drop}
use Rattle.std.specs.Prelude.{map}
use Rattle.std.specs.Borrow.{Bor}
use Rattle.call_strings.specs.declared.context.Node.{Node}
use Rattle.abs_state.specs.declared.state.AbsState.{AbsState}
use Rattle.transfer_flow.specs.Successors.{placed_of}
use Rattle.access_facts.proofs.numbers.all_procedures.Given as goal

abbrev pub invariant-loop-other : goal.invariant-loop-other
invariant-loop-other l =
    let f = λ (o : Bor Node × Bor AbsState). (placed_of o).node.context.proc in
    l.found.items ++ map f (drop l.other-index l.placed) ≡ map f l.placed

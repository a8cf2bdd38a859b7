use Rattle.std.proofs.Common.{◌≡◌, ◌++◌, drop}
use Rattle.std.specs.Borrow.{Bor}
use Rattle.call_strings.specs.declared.context.Node.{Node}
use Rattle.abs_state.specs.declared.state.AbsState.{AbsState}
use Rattle.transfer_flow.specs.Successors.{placed_of, states_of}
use Rattle.access_facts.specs.Kinds.{paired, tells}
use Rattle.access_facts.proofs.kinds.pairs_by.Given as goal

abbrev pub invariant-loop-other : goal.invariant-loop-other
invariant-loop-other l =
    let f = λ (o : Bor Node × Bor AbsState). tells l.told l.program.image.now l.program.settings.now (states_of l.program l.placed) (placed_of o) in
    l.pairs.items ++ paired f l.number (drop l.other-index l.placed) ≡ paired f 0 l.placed

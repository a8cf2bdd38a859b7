use Rattle.std.proofs.Common.{◌≡◌, ◌++◌, [], drop}
use Rattle.std.specs.Borrow.{Bor}
use Rattle.std.specs.List.{flat_map}
use Rattle.call_strings.specs.declared.context.Node.{Node}
use Rattle.abs_state.specs.declared.state.AbsState.{AbsState}
use Rattle.transfer_flow.specs.Successors.{placed_of, states_of}
use Rattle.access_facts.specs.Facts.{facts_of_placed}
use Rattle.access_facts.proofs.cuts.constraints.Given as goal

abbrev pub invariant-loop-other : goal.invariant-loop-other
invariant-loop-other l =
    let f = λ (o : Bor Node × Bor AbsState). facts_of_placed l.program.image.now l.program.settings.now (states_of l.program []) (placed_of o) in
    l.facts.items ++ flat_map f (drop l.other-index l.placed) ≡ flat_map f l.placed

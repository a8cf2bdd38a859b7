use Rattle.std.proofs.Common.{◌≡◌, ◌++◌, drop}
use Rattle.std.specs.List.{flat_map}
use Rattle.std.specs.Borrow.{Bor}
use Rattle.call_strings.specs.declared.context.Node.{Node}
use Rattle.abs_state.specs.declared.state.AbsState.{AbsState}
use Rattle.transfer_flow.specs.Successors.{placed_of}
use Rattle.access_facts.specs.Places.{keys_in}
use Rattle.access_facts.proofs.numbers.all_keys.Given as goal

abbrev pub invariant-loop-other : goal.invariant-loop-other
invariant-loop-other l =
    let f = λ (o : Bor Node × Bor AbsState). keys_in (placed_of o).state in
    l.found.items ++ flat_map f (drop l.other-index l.placed) ≡ flat_map f l.placed

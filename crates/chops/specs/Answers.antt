-- What a chop answers. The project's own.
use Rattle.std.specs.Prelude.{ℕ, List}
use Rattle.std.specs.declared.result.Result.{Result}
use Rattle.std.specs.declared.result.Result.TheVariants.{Ok, Err}
use Rattle.flow_graph.specs.declared.graph.FlowNode.{FlowNode}
use Rattle.flow_graph.specs.FlowGraph.{IsAt}
use Rattle.chops.specs.declared.slices.ChopAbsent.{ChopAbsent}
use Rattle.chops.specs.declared.slices.ChopAbsent.TheVariants.{From, To}

abbrev pub IsPresent : List FlowNode → ℕ → Type 0
IsPresent g at = (n : ℕ) × IsAt g at n

-- From where no node stands at the one address, To where one does and none stands at the other, and else no error
abbrev pub ChopAnswer : List FlowNode → ℕ → ℕ → Result (Unit {0}) ChopAbsent → Type 0
ChopAnswer g from to (Err From) = ¬ IsPresent g from
ChopAnswer g from to (Err To) = IsPresent g from × ¬ IsPresent g to
ChopAnswer g from to (Ok unit) = IsPresent g from × IsPresent g to

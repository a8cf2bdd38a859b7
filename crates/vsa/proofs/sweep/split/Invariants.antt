use Rattle.std.proofs.Common.{◌≡◌, map}
use Rattle.call_strings.specs.declared.context.Node.{Node}
use Rattle.abs_state.specs.Views.{seen}
use Rattle.vsa.specs.Tables.{state_of}
use Rattle.vsa.proofs.sweep.split.Given as goal

abbrev pub invariant-loop-row : goal.invariant-loop-row
invariant-loop-row l = (l.nodes.items ≡ map {B = Node} (λ x. x.place) l.yielded) × (map seen l.values.items ≡ map (λ x. state_of x.state) l.yielded)

use Rattle.std.proofs.Common.{◌≡◌, ◌++◌, drop}
use Rattle.std.specs.Prelude.{map}
use Rattle.abs_semantics.specs.States.{value_at}
use Rattle.abs_state.specs.Views.{seen}
use Rattle.transfer_flow.proofs.target_lists.values_at.Given as goal

abbrev pub invariant-loop-at : goal.invariant-loop-at
invariant-loop-at l = l.out.items ++ map (value_at (seen l.a)) (drop l.at l.cells) ≡ map (value_at (seen l.a)) l.cells

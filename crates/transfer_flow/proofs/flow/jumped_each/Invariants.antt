use Rattle.std.proofs.Common.{◌≡◌, ◌++◌, drop}
use Rattle.std.specs.Prelude.{map}
use Rattle.abs_state.specs.Views.{seen}
use Rattle.abs_steps.specs.Successors.{at_node, moved_to}
use Rattle.transfer_flow.specs.Successors.{all_placed}
use Rattle.transfer_flow.proofs.flow.jumped_each.Given as goal

abbrev pub invariant-loop-at : goal.invariant-loop-at
invariant-loop-at l =
    all_placed l.out.items ++ map (λ t. at_node (moved_to t l.site.node.now) (seen l.site.state.now)) (drop l.at l.targets)
    ≡ map (λ t. at_node (moved_to t l.site.node.now) (seen l.site.state.now)) l.targets

use Rattle.std.proofs.Common.{◌≡◌, ◌++◌, drop}
use Rattle.std.specs.List.{flat_map}
use Rattle.abs_state.specs.Views.{seen}
use Rattle.transfer_flow.specs.Successors.{all_placed, caller_by, behind}
use Rattle.transfer_flow.proofs.returning.put_all_behind.Given as goal

abbrev pub invariant-loop-caller : goal.invariant-loop-caller
invariant-loop-caller l =
    all_placed l.out.items ++ flat_map (λ k. behind l.parent (seen l.state) (caller_by k)) (drop l.caller-index l.callers)
    ≡ all_placed l.initial.out.items ++ flat_map (λ k. behind l.parent (seen l.state) (caller_by k)) l.callers

use Rattle.std.proofs.Common.{◌≡◌, drop}
use Rattle.abs_steps.specs.Places.{all_numbers}
use Rattle.transfer_flow.proofs.TargetLemmas.{prefixed}
use Rattle.transfer_flow.proofs.target_lists.all_numbers.Given as goal

abbrev pub invariant-loop-value : goal.invariant-loop-value
invariant-loop-value l = prefixed l.out.items (all_numbers (drop l.value-index l.values)) ≡ all_numbers l.values
